use Rattle.br_model.specs.declared.steps.Step.TheVariants.{Now}
use Rattle.br_model.proofs.Plane.Stays.{step-held}
use Rattle.run_world.proofs.Deciding.{stands_on}
use Rattle.run_world.proofs.world.World.moment.Goals as goal

pub invariant_of-self : goal.invariant_of-self
invariant_of-self c =
    let was = c.self.inside.plane.value in
    stands_on c.accept_to.result was c.deref.result.now c.deref_mut.result.now c.accept_to.new.self _ (Now c.args.moment) _ _ c.self.inside.verdicts (cc) (cc) (cc) c.stands.ensures.world
    (step-held was.world (Now c.args.moment)) c.accept_to.ensures.ok c.accept_to.ensures.err c.self.invariant.1
