use Rattle.std.proofs.Common.{◌≤◌, List, length, ℕ, Some, sym, subst, ap, ◌∙◌}
use Rattle.br_model.specs.Data.Maps.{pair_cmp, put}
use Rattle.chip_tables.specs.declared.rows.AddressRow.{AddressRow}
use Rattle.br_model.specs.Table.Limits.{most_addresses}
use Rattle.chip_tables.specs.Rows.{addresses_with}
use Rattle.chip_tables.specs.Stands.{address_wanted}
use Rattle.chip_driver.specs.Drives.{Driven, Drives, driven}
use Rattle.chip_driver.proofs.GroupRows.{mapped-put}
use Rattle.chip_driver.proofs.Standing.{drives_addresses}
use Rattle.chip_driver.proofs.driver.Driver.put_address.Goals as goal

pub set_address-requires : goal.set_address-requires
set_address-requires c =
    subst (λ (driver : Driven). length (addresses_with driver.rows c.args.v c.args.m (Some c.address_row.result)) ≤ most_addresses) (sym c.self.view_is) (c.requires c.address_row.result)

pub returns-clause-drives : goal.returns-clause-drives
returns-clause-drives c d t before =
    let old : Drives d (driven c.self.inside.dom c.self.inside.count c.self.inside.kept) t = subst (λ r. Drives d r t) (sym c.self.view_is) before in
    drives_addresses d t (put pair_cmp t.addr (c.args.v, c.args.m) (c.args.p, c.args.kind)) (driven c.self.inside.dom c.self.inside.count c.self.inside.kept) _ _ old c.set_address.ensures.rest
    (c.set_address.ensures.row ∙ ap (λ row. addresses_with c.self.inside.kept.tables c.args.v c.args.m (Some row)) c.address_row.ensures
    ∙ ap (λ (rows : List ((ℕ × ℕ) × AddressRow)). put pair_cmp rows (c.args.v, c.args.m) (address_wanted (c.args.p, c.args.kind))) old.rows.addresses
    ∙ sym (mapped-put pair_cmp address_wanted t.addr (c.args.v, c.args.m) (c.args.p, c.args.kind)))
