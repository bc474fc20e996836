-- Changes that no port comes or goes by, and that set no state.
use Rattle.std.proofs.Common.{Bool, true, false}
use Rattle.br_model.specs.declared.change.Change.{Change}
use Rattle.br_model.specs.declared.change.Change.TheVariants.{PortUp, PortDown, SetState}

abbrev pub is_aside : Change → Bool
is_aside (PortUp port) = false
is_aside (PortDown port) = false
is_aside (SetState port state) = false
is_aside c = true
