-- What captures say, computed by the definition.
use Rattle.std.proofs.Common.{◌≡◌, refl}
use Rattle.br_model.specs.Wire.Captures.{cut, read}
use Rattle.pcapng_read.specs.WorkedCaptures.{captures, worked, worked_said}

pub read_worked : captures worked ≡ worked_said
unfolding captures cut read
read_worked = refl
