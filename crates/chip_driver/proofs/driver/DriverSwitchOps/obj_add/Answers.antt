use Rattle.std.proofs.Common.{sym, subst}
use Rattle.br_model.specs.Table.Table.{apply}
use Rattle.switchdev_notify.specs.Notices.{change_added}
use Rattle.chip_driver.specs.Drives.{Drives}
use Rattle.chip_driver.proofs.driver.DriverSwitchOps.obj_add.Goals as goal

pub returns-in-Vlan-clause-told : goal.returns-in-Vlan-clause-told
returns-in-Vlan-clause-told c d t before = subst (λ o. Drives d c.add_vlan.new.self (apply t (change_added o))) (sym c.in-Vlan.is) (c.add_vlan.ensures.drives d t before)

pub returns-in-Group-clause-told : goal.returns-in-Group-clause-told
returns-in-Group-clause-told c d t before = subst (λ o. Drives d c.join_group.new.self (apply t (change_added o))) (sym c.in-Group.is) (c.join_group.ensures.drives d t before)
