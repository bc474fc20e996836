use Rattle.std.proofs.Common.{arith}
use Rattle.chip_tables.proofs.AddressRows.{place-blank}
use Rattle.chip_tables.proofs.addresses.AddressCells.written.Goals as goal

pub returns-clause-rest : goal.returns-clause-rest
returns-clause-rest c i past below = place-blank c.args.self.now.bank i (omega (arith, below, c.written.ensures.len)) (c.written.ensures.rest i past below)
