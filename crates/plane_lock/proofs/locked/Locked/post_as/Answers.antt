use Rattle.std.proofs.Common.{◌≡◌, ◌≤◌, List, length, inl, refl, sym, ap, ◌∙◌, subst}
use Rattle.br_model.specs.declared.transcript.Line.{Line}
use Rattle.transcript_lines.specs.Rows.{Listed}
use Rattle.br_model.specs.Plane.Serving.{held_with}
use Rattle.br_model.specs.Plane.World.{Holding}
use Rattle.std.specs.Prelude.{IfSome}
use Rattle.plane_core.specs.Shown.{shown_by, shown_of}
use Rattle.plane_core.specs.Planes.{IsCopy, IsDecision}
use Rattle.table_publish.specs.Board.{Known}
use Rattle.plane_record.specs.Pasts.{Past, changes_of, post_step, said_by, world_of}
use Rattle.plane_lock.specs.Posted.{HavePosted, updates_of}
use Rattle.plane_lock.specs.Posts.{Tells}
use Rattle.plane_lock.proofs.Posting.{may-post, tells}
use Rattle.plane_record.proofs.Recording.{world-stands}
use Rattle.plane_lock.proofs.Settling.{IsLocked, counted, may-settle, settles}
use Rattle.plane_lock.proofs.locked.Locked.post_as.Goals as goal

pub post-requires-clause-decision : goal.post-requires-clause-decision
post-requires-clause-decision g c =
    subst (λ (p : Past). (x : Holding) → IsCopy (world_of p) c.args.h x → c.args.n.point ≤ (world_of p).published → IsDecision (world_of p) x c.args.n) (sym c.tell.ensures.same)
    (may-post c.self.inside.ran g.N.Name.board.domains g.N.Name.own c.tell.new.s.object c.c.inside.seat.object c.args.c.now.object c.args.h c.args.n c.self.invariant.1 c.tell.ensures.published
    c.c.invariant.1
    c.tell.ensures.kept c.tell.ensures.told (ap (λ (k : Known). k.object) c.c.view_is) (record { point = c.requires.point; floor = c.requires.floor; verdict = c.requires.verdict }))

pub settle-requires : goal.settle-requires
settle-requires g c =
    let p = c.tell.new.self in
    may-settle p (post_step (held_with (world_of p) c.args.h.id) c.args.h.id c.args.n.point) c.post.new.self c.self.inside.posters.items (length c.history-changes.result.now) c.in_ok-lines.ensures.ok
    (subst (λ (x : Past). HavePosted (updates_of x) c.self.inside.posters.items) (sym c.tell.ensures.same) c.self.invariant.2)
    (counted c.self.inside.ran c.plane.result.now c.history-changes.result.now (length c.history-changes.result.now) refl c.history-changes.ensures c.plane.ensures
    ∙ ap changes_of (sym c.tell.ensures.same))

pub returns-in-Ok-clause-said : goal.returns-in-Ok-clause-said
returns-in-Ok-clause-said g c =
    ap (λ (l : Listed). l.lines) c.in-Ok.ensures.said
    ∙ (c.in_ok-lines.ensures.lines
    ∙ ap (λ (p : Past). said_by p (post_step (held_with (world_of p) c.args.h.id) c.args.h.id c.args.n.point)) (c.tell.ensures.same ∙ c.self.view_is))

pub returns-in-Ok-clause-lines : goal.returns-in-Ok-clause-lines
returns-in-Ok-clause-lines g c =
    let may =
    may-post c.self.inside.ran g.N.Name.board.domains g.N.Name.own c.tell.new.s.object c.c.inside.seat.object c.args.c.now.object c.args.h c.args.n c.self.invariant.1 c.tell.ensures.published
    c.c.invariant.1
    c.tell.ensures.kept c.tell.ensures.told (ap (λ (k : Known). k.object) c.c.view_is) (record { point = c.requires.point; floor = c.requires.floor; verdict = c.requires.verdict }) in
    let good = subst (λ (p : Past). IfSome (held_with (world_of p) c.args.h.id) (λ x. (shown_by c.args.h ≡ shown_of x) × (c.args.n.point ≤ (world_of p).published))) c.tell.ensures.same
    c.in_ok-lines.ensures.held in
    subst (λ (l : List Line). Tells (world_of c.args.self.now) (held_with (world_of c.args.self.now) c.args.h.id) c.args.h c.args.n.point l) (sym (returns-in-Ok-clause-said g c))
    (subst (λ (p : Past). Tells (world_of p) (held_with (world_of p) c.args.h.id) c.args.h c.args.n.point (said_by p (post_step (held_with (world_of p) c.args.h.id) c.args.h.id c.args.n.point)))
    c.self.view_is
    (tells (world_of c.self.inside.ran) c.args.h c.args.n (world-stands c.self.inside.ran) may c.requires.floor good))

pub invariant_of-self-in-Ok : goal.invariant_of-self-in-Ok
invariant_of-self-in-Ok g c =
    let p = c.tell.new.self in
    subst (λ (x : Past). IsLocked g.N.Name.board g.N.Name.own x c.settle.new.posters.items) (sym c.tell-in-Ok.ensures.same)
    (settles p c.post.new.self c.settle.new.ran (post_step (held_with (world_of p) c.args.h.id) c.args.h.id c.args.n.point)
    (length c.history-changes.result.now) g.N.Name.board g.N.Name.own c.self.inside.posters.items c.settle.new.posters.items
    c.in_ok-lines.ensures.ok (inl c.in-Ok.ensures.done) c.settle.ensures.posted c.settle.ensures.ends
    (subst (λ (x : Past). IsLocked g.N.Name.board g.N.Name.own x c.self.inside.posters.items) (sym c.tell.ensures.same) c.self.invariant))
