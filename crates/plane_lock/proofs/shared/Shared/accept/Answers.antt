use Rattle.plane_record.specs.Pasts.{event_step}
use Rattle.plane_lock.proofs.Calling.{acts-on-some}
use Rattle.plane_lock.proofs.shared.Shared.accept.Goals as goal

pub returns : goal.returns
returns g c =
    acts-on-some g.N.Name.board g.N.Name.own c.lock-core.result.value c.deref_mut.result.now c.lock-core.ensures c.deref_mut.ensures.value
    c.accept-done.new.self (event_step c.args.e.now) c.accept-done.result c.accept-done.ensures
