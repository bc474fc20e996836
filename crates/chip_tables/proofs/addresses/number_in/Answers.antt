use Rattle.std.proofs.Common.{ap}
use Rattle.chip_tables.specs.AddressCells.{ordered}
use Rattle.chip_tables.proofs.addresses.number_in.Goals as goal

pub returns : goal.returns
unfolding ordered
returns c = ap ordered c.key_in-key.ensures.value
