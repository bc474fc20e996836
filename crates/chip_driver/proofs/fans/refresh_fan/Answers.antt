use Rattle.std.specs.Prelude.{true}
use Rattle.lemmas.proofs.Tests.{and_last}
use Rattle.vlan_groups.specs.Joined.{has_vlan}
use Rattle.chip_driver.specs.Settled.{same_fan}
use Rattle.chip_driver.specs.Renewing.{edited, follows}
use Rattle.chip_driver.proofs.Renewing.{renewed_alike, renewed_none}
use Rattle.chip_driver.proofs.fans.refresh_fan.Goals as goal

pub returns-then-touched : goal.returns-then-touched
returns-then-touched c =
    renewed_alike (λ w. has_vlan c.args.joined.now c.args.port w) c.args.fan c.args.touched (edited c.edit_of-edit.result) (follows c.args.shadow.now c.args.port true) c.args.tables.now _
    c.if-touched.true c.edit_of-edit.ensures c.edit_all.ensures

pub returns-else-touched : goal.returns-else-touched
returns-else-touched c =
    renewed_none _ (follows c.args.shadow.now c.args.port true) c.args.tables.now
    (λ w in_range k. and_last (has_vlan c.args.joined.now c.args.port w) (same_fan k c.args.fan) c.args.touched c.if-touched.false)
