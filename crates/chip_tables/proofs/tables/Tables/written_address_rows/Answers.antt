use Rattle.std.proofs.Common.{ℕ, List, Option, slice_get, ap, sym, subst, ◌∙◌}
use Rattle.open_addressing.specs.Finite.{entries_of}
use Rattle.open_addressing.specs.Lookups.{IsApart}
use Rattle.open_addressing.specs.Zipped.{key_of}
use Rattle.chip_tables.specs.declared.rows.AddressRow.{AddressRow}
use Rattle.chip_tables.specs.Rows.{Rows}
use Rattle.chip_tables.specs.AddressCells.{places_of}
use Rattle.chip_tables.proofs.Placed.{is_placed}
use Rattle.chip_tables.proofs.tables.Tables.written_address_rows.Goals as goal

pub returns-clause-placed : goal.returns-clause-placed
returns-clause-placed c =
    let m = c.self.inside.addresses in
    is_placed c.cells.result.now.bank m.entries c.cells.result.now.sized (ap entries_of c.cells.ensures.cells ∙ c.cells.ensures.entries)
    (subst (λ (cs : List (Option (ℕ × AddressRow))). IsApart key_of cs) (sym c.cells.ensures.cells) c.cells.ensures.apart)
    c.args.self.now (ap (λ (t : Rows). t.addresses) (sym c.self.view_is)) (ap (λ (t : Rows). t.places) (sym c.self.view_is) ∙ ap places_of (sym c.cells.ensures.cells))

pub returns-clause-rest : goal.returns-clause-rest
returns-clause-rest c i past below =
    ap (λ (ps : List (Option (ℕ × ℕ))). slice_get ps i) (ap (λ (t : Rows). t.places) (sym c.self.view_is) ∙ ap places_of (sym c.cells.ensures.cells)) ∙ c.written.ensures.rest i past below
