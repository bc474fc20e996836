use Rattle.std.proofs.Common.{ℕ, ◌<◌, List, Option, length, ap, sym, subst, ◌∙◌, arith}
use Rattle.open_addressing.specs.Finite.{entries_of}
use Rattle.open_addressing.specs.Lookups.{IsApart}
use Rattle.open_addressing.specs.Zipped.{key_of}
use Rattle.chip_tables.specs.declared.rows.AddressRow.{AddressRow}
use Rattle.chip_tables.specs.Rows.{Rows}
use Rattle.chip_tables.specs.AddressCells.{places_of}
use Rattle.chip_tables.proofs.Placed.{extern-placed}
use Rattle.chip_tables.proofs.tables.Tables.extern_at.Goals as goal

pub returns : goal.returns
returns c place at =
    let m = c.self.inside.addresses in
    let bank : List ℕ = c.cells.result.now.bank in
    let within : c.args.i < length bank = omega (arith, c.requires, c.cells.result.now.sized) in
    c.extern_in.ensures
    ∙ extern-placed bank m.entries (ap entries_of c.cells.ensures.cells ∙ c.cells.ensures.entries)
    (subst (λ (cs : List (Option (ℕ × AddressRow))). IsApart key_of cs) (sym c.cells.ensures.cells) c.cells.ensures.apart)
    c.args.self.now (ap (λ (t : Rows). t.addresses) (sym c.self.view_is)) (ap (λ (t : Rows). t.places) (sym c.self.view_is) ∙ ap places_of (sym c.cells.ensures.cells))
    c.args.i within place at
