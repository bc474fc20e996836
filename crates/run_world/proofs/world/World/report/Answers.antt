use Rattle.br_model.specs.declared.steps.Step.TheVariants.{Report}
use Rattle.br_model.proofs.Plane.Stays.{step-held}
use Rattle.run_world.proofs.Deciding.{stands_on}
use Rattle.run_world.proofs.world.World.report.Goals as goal

pub invariant_of-self : goal.invariant_of-self
invariant_of-self c =
    let was = c.self.inside.plane.value in
    stands_on c.report_to.result was c.deref.result.now c.deref_mut.result.now c.report_to.new.self _ (Report c.args.dom) _ _ c.self.inside.verdicts (cc) (cc) (cc) c.stands.ensures.world
    (step-held was.world (Report c.args.dom)) c.report_to.ensures.ok c.report_to.ensures.err c.self.invariant.1
