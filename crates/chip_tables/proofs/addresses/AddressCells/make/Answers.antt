use Rattle.chip_tables.proofs.AddressRows.{made-sized, made-kept, made-cells}
use Rattle.chip_tables.proofs.addresses.AddressCells.make.Goals as goal

pub invariant_of-result : goal.invariant_of-result
invariant_of-result c = record { sized = made-sized 32768 _ c.in_ok-bank.ensures; kept = made-kept 32768 _ c.in_ok-bank.ensures }

pub returns : goal.returns
returns c = made-cells 32768 _ c.in_ok-bank.ensures
