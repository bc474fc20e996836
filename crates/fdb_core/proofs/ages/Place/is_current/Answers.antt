use Rattle.fdb_core.proofs.ByAddress.{key-some}
use Rattle.fdb_core.proofs.ages.Place.is_current.Goals as goal

pub get-requires : goal.get-requires
get-requires c = key-some c.self.inside.key c.self.invariant
