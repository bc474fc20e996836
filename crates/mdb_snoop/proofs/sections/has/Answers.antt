use Rattle.std.proofs.Common.{sym, ap, is_some}
use Rattle.mdb_snoop.proofs.Search.{present, absent}
use Rattle.mdb_snoop.proofs.sections.has.Goals as goal

pub returns-in-Ok : goal.returns-in-Ok
returns-in-Ok g c = sym (ap is_some (present _ _ _ c.in-Ok.ensures.found))

pub returns-in-Err : goal.returns-in-Err
returns-in-Err g c = sym (ap is_some (absent _ _ _ c.in-Err.ensures.gap))
