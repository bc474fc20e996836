use Rattle.plane_lock.proofs.Calling.{enters-some}
use Rattle.plane_lock.proofs.shared.Shared.enter.Goals as goal

pub returns : goal.returns
returns g c =
    enters-some g.N.Name.board g.N.Name.own c.lock-core.result.value c.deref_mut.result.now c.lock-core.ensures c.deref_mut.ensures.value
    c.args.p c.args.b.now c.enter-entered.result c.enter-entered.ensures.lines c.enter-entered.ensures.pass
