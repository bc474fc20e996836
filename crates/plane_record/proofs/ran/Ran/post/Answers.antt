use Rattle.std.proofs.Common.{◌≡◌, ◌≤◌, List, [], ◌∷◌, ◌++◌, length, Some, None, sym, ap, ◌∙◌, subst}
use Rattle.std.specs.Prelude.{Bool, nat_lt, if◌then◌else◌}
use Rattle.std.proofs.lemmas.Bool.{lt-ltb, le-ltb}
use Rattle.br_model.specs.declared.steps.Step.{Step}
use Rattle.br_model.specs.declared.steps.Step.TheVariants.{Post}
use Rattle.br_model.specs.Plane.Serving.{held_with}
use Rattle.br_model.specs.Plane.World.{Holding}
use Rattle.br_model.specs.Table.Domains.{chip_domains}
use Rattle.plane_parts.specs.Added.{Added}
use Rattle.plane_core.specs.Planes.{PlaneState, Steps, IsCopy, IsDecision}
use Rattle.plane_record.specs.Pasts.{after, post_step, said_by, state_of, world_of}
use Rattle.plane_record.proofs.Posting.{post-recorded}
use Rattle.plane_record.proofs.Recording.{Recorded, post-comes, recorded, stood}
use Rattle.plane_record.proofs.ran.Ran.post.Goals as goal
use Rattle.plane_record.proofs.ran.Ran.post.Goals.{then-is_released, else-is_released}

-- The plane is the one of the past.

pub post_to-requires-clause-decision : goal.post_to-requires-clause-decision
post_to-requires-clause-decision c =
    subst (λ (s : PlaneState). (x : Holding) → IsCopy s.world c.args.h x → c.args.s.point ≤ s.world.published → IsDecision s.world x c.args.s)
    (sym (stood c.self.inside.plane c.self.inside.steps.items c.self.inside.lines.lines c.args.self.now c.self.invariant c.self.view_is)) c.requires.decision

module _ (c : goal.After-write_down) where
  before : c.self.inside.plane ≡ state_of c.args.self.now
  before = stood c.self.inside.plane c.self.inside.steps.items c.self.inside.lines.lines c.args.self.now c.self.invariant c.self.view_is

  may : (x : Holding) → IsCopy c.self.inside.plane.world c.args.h x → c.args.s.point ≤ c.self.inside.plane.world.published → IsDecision c.self.inside.plane.world x c.args.s
  may = subst (λ (s : PlaneState). (x : Holding) → IsCopy s.world c.args.h x → c.args.s.point ≤ s.world.published → IsDecision s.world x c.args.s) (sym before) c.requires.decision

  fewer-is : nat_lt c.held.result c.held-held.result ≡ nat_lt (length c.post_to.new.self.world.held) (length c.self.inside.plane.world.held)
  fewer-is = λ i. nat_lt (c.held.ensures i) (c.held-held.ensures i)

  pt-is : c.if-is_released.point ≡ (if nat_lt (length c.post_to.new.self.world.held) (length c.self.inside.plane.world.held) then Some c.args.s.point else None)
  pt-is = elim c.if-is_released.branch [
    | then-is_released w ↦ w.point-is ∙ sym (ap (λ (b : Bool). if b then Some c.args.s.point else None) (sym fewer-is ∙ lt-ltb c.held.result c.held-held.result w.if-is_released.true))
    | else-is_released w ↦ w.point-is ∙ sym (ap (λ (b : Bool). if b then Some c.args.s.point else None) (sym fewer-is ∙ le-ltb c.held.result c.held-held.result w.if-is_released.false))
  ]

  given : (Post c.args.h.id c.if-is_released.point ≡ post_step (held_with c.self.inside.plane.world c.args.h.id) c.args.h.id c.args.s.point)
      × Added (Steps c.self.inside.plane c.post_to.new.self (Post c.args.h.id c.if-is_released.point)) c.make_ready.new.lines.lines c.post_to.new.lines.lines
  given = post-recorded c.self.inside.plane c.post_to.new.self c.args.h c.args.s c.make_ready.new.lines.lines c.post_to.new.lines.lines c.if-is_released.point
      may c.requires.floor c.in_ok-post_to.ensures.posted pt-is

  -- the step is the one of the past
  named : Post c.args.h.id c.if-is_released.point ≡ post_step (held_with (world_of c.args.self.now) c.args.h.id) c.args.h.id c.args.s.point
  named = given.0 ∙ ap (λ (s : PlaneState). post_step (held_with s.world c.args.h.id) c.args.h.id c.args.s.point) before

  done : Recorded c.post_to.new.self c.write_down.new.steps.items (Post c.args.h.id c.if-is_released.point) c.write_down.new.lines.lines c.write_down.result.lines c.args.self.now
  done =
      let ready = c.make_ready in
      let down = c.write_down in
      recorded c.self.inside.plane c.post_to.new.self c.self.inside.steps.items ready.new.steps.items down.new.steps.items (Post c.args.h.id c.if-is_released.point)
      c.self.inside.lines ready.new.lines c.post_to.new.lines down.new.lines down.result.lines c.args.self.now c.self.invariant c.self.view_is
      ready.ensures.steps ready.ensures.lines ready.ensures.saved
      given.1 c.in_ok-post_to.ensures.saved
      down.ensures.steps down.ensures.lines down.ensures.said (post-comes (chip_domains c.self.inside.plane.world.setup.domains) c.args.h.id c.if-is_released.point)

pub invariant_of-self-2 : goal.invariant_of-self-2
invariant_of-self-2 c = (done c).ran

pub returns-clause-ok : goal.returns-clause-ok
returns-clause-ok c = (done c).reached ∙ ap (after c.args.self.now) (named c)

pub returns-clause-lines : goal.returns-clause-lines
returns-clause-lines c = (done c).said ∙ ap (said_by c.args.self.now) (named c)
