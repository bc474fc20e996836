use Rattle.br_model.specs.declared.steps.Step.TheVariants.{Sweep}
use Rattle.br_model.proofs.Plane.Stays.{step-held}
use Rattle.run_world.proofs.Deciding.{stands_on}
use Rattle.run_world.proofs.world.World.sweep.Goals as goal

pub invariant_of-self : goal.invariant_of-self
invariant_of-self c =
    let was = c.self.inside.plane.value in
    stands_on c.sweep_to.result was c.deref.result.now c.deref_mut.result.now c.sweep_to.new.self _ (Sweep c.args.dom) _ _ c.self.inside.verdicts (cc) (cc) (cc) c.stands.ensures.world
    (step-held was.world (Sweep c.args.dom)) c.sweep_to.ensures.ok c.sweep_to.ensures.err c.self.invariant.1
