use Rattle.br_model.specs.declared.steps.Step.TheVariants.{Turn}
use Rattle.br_model.proofs.Plane.Stays.{step-held}
use Rattle.run_world.proofs.Deciding.{stands_on}
use Rattle.run_world.proofs.world.World.turn.Goals as goal

pub invariant_of-self : goal.invariant_of-self
invariant_of-self c =
    let was = c.self.inside.plane.value in
    stands_on c.turn_next.result was c.deref.result.now c.deref_mut.result.now c.turn_next.new.self _ (Turn c.args.dom) _ _ c.self.inside.verdicts (cc) (cc) (cc) c.stands.ensures.world
    (step-held was.world (Turn c.args.dom)) c.turn_next.ensures.ok c.turn_next.ensures.err c.self.invariant.1
