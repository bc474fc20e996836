use Rattle.plane_lock.proofs.Calling.{opens-some}
use Rattle.plane_lock.proofs.shared.Shared.open_as.Goals as goal

pub returns-clause-held : goal.returns-clause-held
returns-clause-held g c =
    opens-some g.N.Name.board g.N.Name.own c.lock-core.result.value c.deref_mut.result.now c.lock-core.ensures c.deref_mut.ensures.value
    c.open_as-held.new.c.object c.open_as-held.result c.open_as-held.ensures.held c.open_as-held.ensures.told
