use Rattle.std.proofs.Common.{ℕ, subst}
use Rattle.chip_tables.specs.Rows.{WritesPort}
use Rattle.chip_tables.proofs.tables.Tables.set_port.Goals as goal

pub returns-clause-row : goal.returns-clause-row
returns-clause-row c = subst (λ (n : ℕ). WritesPort c.args.self.now c.set_port_numbered.new.self n c.args.r) c.number.ensures.value c.set_port_numbered.ensures.row
