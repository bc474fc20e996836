use Rattle.open_addressing.specs.Pairs.{packed}
use Rattle.chip_tables.proofs.addresses.number_of.Goals as goal

pub returns-clause-value : goal.returns-clause-value
unfolding packed
returns-clause-value c = c.in_vlan.ensures.value
