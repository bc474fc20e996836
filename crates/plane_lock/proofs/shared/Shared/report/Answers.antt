use Rattle.br_model.specs.declared.steps.Step.TheVariants.{Report}
use Rattle.plane_lock.proofs.Calling.{acts-on-some}
use Rattle.plane_lock.proofs.shared.Shared.report.Goals as goal

pub returns : goal.returns
returns g c =
    acts-on-some g.N.Name.board g.N.Name.own c.lock-core.result.value c.deref_mut.result.now c.lock-core.ensures c.deref_mut.ensures.value
    c.report-done.new.self (Report c.args.d) c.report-done.result c.report-done.ensures
