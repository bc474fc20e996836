use Rattle.std.proofs.Common.{List, ℕ, sym, subst, ap, ◌∙◌}
use Rattle.br_model.specs.Data.Maps.{pair_cmp, without}
use Rattle.chip_tables.specs.declared.rows.AddressRow.{AddressRow}
use Rattle.chip_tables.specs.Stands.{address_wanted}
use Rattle.chip_driver.specs.Drives.{Drives, driven}
use Rattle.chip_driver.proofs.GroupRows.{mapped-without}
use Rattle.chip_driver.proofs.Standing.{drives_addresses}
use Rattle.chip_driver.proofs.driver.Driver.del_address.Goals as goal

pub returns-clause-drives : goal.returns-clause-drives
returns-clause-drives c d t before =
    let old : Drives d (driven c.self.inside.dom c.self.inside.count c.self.inside.kept) t = subst (λ r. Drives d r t) (sym c.self.view_is) before in
    drives_addresses d t (without pair_cmp t.addr (c.args.v, c.args.m)) (driven c.self.inside.dom c.self.inside.count c.self.inside.kept) _ _ old c.set_address.ensures.rest
    (c.set_address.ensures.row
    ∙ ap (λ (rows : List ((ℕ × ℕ) × AddressRow)). without pair_cmp rows (c.args.v, c.args.m)) old.rows.addresses
    ∙ sym (mapped-without pair_cmp address_wanted t.addr (c.args.v, c.args.m)))
