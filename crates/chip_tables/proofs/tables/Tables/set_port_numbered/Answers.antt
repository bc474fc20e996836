use Rattle.std.proofs.Common.{◌<◌, length, set, ap, ◌∙◌, subst, List, ℕ, arith}
use Rattle.chip_tables.specs.Rows.{Rows, port_of}
use Rattle.chip_tables.proofs.Banks.{reads-set}
use Rattle.chip_tables.proofs.tables.Tables.set_port_numbered.Goals as goal

pub returns-clause-row : goal.returns-clause-row
returns-clause-row c =
    let same = ap (λ (t : Rows). t.ports) c.self.view_is in
    reads-set port_of c.args.self.now.ports c.put.new.self c.from.result c.args.number c.pack_port.result c.args.r c.from.ensures
    (subst (λ (xs : List ℕ). c.from.result < length xs) same (omega (arith, c.put.ensures.len, c.from.ensures, c.ranges.number.fits)))
    (c.put.ensures.value ∙ ap (λ (xs : List ℕ). set xs c.from.result c.pack_port.result) same) c.pack_port.ensures
