use Rattle.std.proofs.Common.{◌≤◌, length, List, [], ◌∷◌, ◌++◌, ap, ◌∙◌, sym}
use Rattle.std.proofs.lemmas.List.Elements.{All-head, All-push, All-rest, All-same}
use Rattle.plane_core.specs.declared.held.Held.{Held}
use Rattle.plane_lock.specs.Posts.{IsSeen}
use Rattle.live_workers.specs.declared.frames.Looked.{Looked}
use Rattle.live_workers.proofs.Known.{all_still, floors_still}
use Rattle.live_workers.proofs.frames.look_up.Goals as goal

pub decide-requires : goal.decide-requires
decide-requires g c =
    let P : Held → Type 0 = λ h. h.floor ≤ length c.loop-held.chair.object.changes in
    All-head P c.in-Some.held c.next.new.self.rest.items (All-same P _ _ (sym c.in-Some.ensures.steps.0) c.loop-held.invariant.0)

pub loop-held-preserved : goal.loop-held-preserved
loop-held-preserved g c =
    let P : Held → Type 0 = λ h. h.floor ≤ length c.loop-held.chair.object.changes in
    let Q : Looked → Type 0 = λ x. IsSeen g.N.Name.board.domains c.decide.new.chair.object x.held x.seen in
    let x : Looked = record { held = c.in-Some.held; seen = c.in-Some-decide.seen } in (
      floors_still c.loop-held.chair.object c.decide.new.chair.object c.next.new.self.rest.items c.decide.ensures.kept
          (All-rest P c.in-Some.held c.next.new.self.rest.items c.loop-held.held-iterator.rest.items c.in-Some.ensures.steps.0 c.loop-held.invariant.0),
      All-same Q _ _ (c.push_reserved.ensures.items ∙ ap (λ (l : List Looked). l ++ x ∷ []) c.in_ok-reserve.ensures.items)
          (All-push Q c.loop-held.all.items x
          (all_still g.N.Name.board.domains c.loop-held.chair.object c.decide.new.chair.object c.loop-held.all.items c.stands.ensures c.decide.ensures.kept c.loop-held.invariant.1)
          c.in-Some-decide.ensures.seen),
    )
