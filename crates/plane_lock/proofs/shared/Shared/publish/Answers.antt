use Rattle.br_model.specs.declared.steps.Step.TheVariants.{Publish}
use Rattle.plane_lock.proofs.Calling.{said-by-some}
use Rattle.plane_lock.proofs.shared.Shared.publish.Goals as goal

pub returns : goal.returns
returns g c =
    said-by-some g.N.Name.board g.N.Name.own c.lock-core.result.value c.deref_mut.result.now c.lock-core.ensures c.deref_mut.ensures.value
    Publish c.publish-done.result c.publish-done.ensures.lines
