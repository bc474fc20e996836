use Rattle.std.proofs.Common.{ℕ, List, sym, ap, subst, ◌∙◌}
use Rattle.chip_tables.specs.declared.rows.FanRow.{FanRow}
use Rattle.chip_tables.specs.Rows.{vlan_at}
use Rattle.chip_driver.specs.declared.fans.Edit.{Edit}
use Rattle.chip_driver.specs.Settled.{fan_at, WritesFan}
use Rattle.chip_driver.specs.Renewing.{edited, row_of}
use Rattle.chip_driver.proofs.fans.edit_fan.Goals as goal

pub returns-in-Switch : goal.returns-in-Switch
returns-in-Switch c =
    let old = c.args.tables.now in
    let v = c.args.v in
    subst (λ (e : Edit). WritesFan old c.switch_fan.new.tables v c.args.fan (edited e (fan_at old v c.args.fan) (vlan_at old v).members)) (sym c.in-Switch.is) c.switch_fan.ensures

pub returns-in-Make : goal.returns-in-Make
returns-in-Make c =
    let old = c.args.tables.now in
    let v = c.args.v in
    subst (λ (r : FanRow). WritesFan old c.set_fan.new.tables v c.args.fan r)
    (c.row-row.ensures ∙ ap (λ (members : List ℕ). row_of c.in-Make.sets members) c.members.ensures
    ∙ ap (λ (e : Edit). edited e (fan_at old v c.args.fan) (vlan_at old v).members) (sym c.in-Make.is))
    c.set_fan.ensures
