use Rattle.std.proofs.Common.{◌≡◌, Vec, Global, ap, filter_map, ◌∙◌}
use Rattle.std.proofs.lemmas.Result.{IfOk-weaker}
use Rattle.br_model.specs.Table.Table.{Table}
use Rattle.chip_tables.specs.Stands.{AddressesStand}
use Rattle.chip_audit.specs.Audits.{Row}
use Rattle.chip_audit.specs.Marks.{row_at}
use Rattle.chip_audit.proofs.UsedRows.{all-rows, rows-stand}
use Rattle.chip_audit.proofs.rows.rows.Goals as goal

pub returns : goal.returns
returns c =
    let tables = c.args.tables.now in
    let used = ap (filter_map (row_at tables)) (c.as_slice.ensures.value ∙ c.in_ok-keys.ensures.keys) ∙ all-rows tables c.in_ok-keys.ensures.placed in
    let f : (rows : Vec Row Global) → rows.items ≡ filter_map (row_at tables) c.as_slice.result.now → (t : Table) → AddressesStand tables t → rows.items ≡ t.addr =
    λ rows e t stand. e ∙ used ∙ rows-stand tables t stand in
    IfOk-weaker _ _ _ f c.rows_of.ensures
