use Rattle.br_model.specs.declared.steps.Step.TheVariants.{Rx}
use Rattle.br_model.proofs.Plane.Stays.{step-held}
use Rattle.run_world.proofs.Deciding.{stands_on}
use Rattle.run_world.proofs.world.World.enter.Goals as goal

pub invariant_of-self-2 : goal.invariant_of-self-2
invariant_of-self-2 c =
    let was = c.self.inside.plane.value in
    stands_on c.enter_to.result was c.deref.result.now c.deref_mut.result.now c.enter_to.new.self _ (Rx c.args.port c.args.bytes) _ _ c.self.inside.verdicts (cc) (cc) (cc) c.stands.ensures.world
    (step-held was.world (Rx c.args.port c.args.bytes)) c.enter_to.ensures.step c.enter_to.ensures.err c.self.invariant.1
