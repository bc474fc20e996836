use Rattle.br_model.specs.declared.steps.Step.TheVariants.{Sweep}
use Rattle.plane_lock.proofs.Calling.{acts-on-some}
use Rattle.plane_lock.proofs.shared.Shared.sweep.Goals as goal

pub returns : goal.returns
returns g c =
    acts-on-some g.N.Name.board g.N.Name.own c.lock-core.result.value c.deref_mut.result.now c.lock-core.ensures c.deref_mut.ensures.value
    c.sweep-done.new.self (Sweep c.args.d) c.sweep-done.result c.sweep-done.ensures
