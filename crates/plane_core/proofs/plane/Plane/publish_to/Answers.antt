use Rattle.std.proofs.Common.{[], ◌∷◌, ◌++◌, refl, ap, ◌∙◌}
use Rattle.br_model.specs.declared.steps.Step.TheVariants.{Publish}
use Rattle.br_model.specs.declared.transcript.Line.TheVariants.{Done}
use Rattle.plane_core.proofs.Calling.{publishes_all, stands_after, steps_so}
use Rattle.plane_core.proofs.plane.Plane.publish_to.Goals as goal

pub invariant_of-self-2 : goal.invariant_of-self-2
invariant_of-self-2 g c =
    let q = c.self.inside.frames in
    let m = c.in_ok-step.step in
    stands_after c.self.inside.sides c.publish.new.self q q c.self.inside.steps m Publish _ c.in_ok-step.ensures
    (publishes_all c.self.inside.sides c.publish.new.self q m (c.in_ok-publish.ensures.ok q m)) c.self.invariant

pub returns-clause-ok : goal.returns-clause-ok
returns-clause-ok g c =
    let q = c.self.inside.frames in
    let m = c.in_ok-step.step in
    record {
      lines = Done m 0 ∷ [];
      so = steps_so c.args.self.now c.self.inside.sides c.publish.new.self q q c.self.inside.steps m Publish _ _ c.self.view_is c.in_ok-step.ensures
          (publishes_all c.self.inside.sides c.publish.new.self q m (c.in_ok-publish.ensures.ok q m)) refl c.in_ok-publish.ensures.over;
      added = c.push_reserved.ensures.lines ∙ ap (λ ls. ls ++ Done m 0 ∷ []) c.in_ok-reserve.ensures.lines;
    }
