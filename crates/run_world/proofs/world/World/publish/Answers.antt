use Rattle.br_model.specs.declared.steps.Step.TheVariants.{Publish}
use Rattle.br_model.proofs.Plane.Stays.{step-held}
use Rattle.run_world.proofs.Deciding.{stands_on}
use Rattle.run_world.proofs.world.World.publish.Goals as goal

pub invariant_of-self : goal.invariant_of-self
invariant_of-self g c =
    let was = c.self.inside.plane.value in
    stands_on c.publish_to.result was c.deref.result.now c.deref_mut.result.now c.publish_to.new.self _ Publish _ _ c.self.inside.verdicts (cc) (cc) (cc) c.stands.ensures.world
    (step-held was.world Publish) c.publish_to.ensures.ok c.publish_to.ensures.err c.self.invariant.1
