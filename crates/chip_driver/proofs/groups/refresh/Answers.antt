use Rattle.std.proofs.Common.{◌&&◌, ap}
use Rattle.chip_driver.specs.GroupRows.{is_among, is_member}
use Rattle.chip_driver.proofs.GroupLoop.{groups_left, groups_agree}
use Rattle.chip_driver.proofs.groups.refresh.Goals as goal

pub returns-then-touched : goal.returns-then-touched
returns-then-touched c =
    groups_agree (λ k. is_among c.args.vid k.0 && is_member c.args.groups.now c.args.port k) _ c.args.shadow.now c.args.groups.now c.args.tables.now _
    (λ k. ap (λ b. b && (is_among c.args.vid k.0 && is_member c.args.groups.now c.args.port k)) c.if-touched.true) c.refresh_any.ensures

pub returns-else-touched : goal.returns-else-touched
returns-else-touched c =
    groups_left _ c.args.shadow.now c.args.groups.now c.args.tables.now c.requires
    (λ k. ap (λ b. b && (is_among c.args.vid k.0 && is_member c.args.groups.now c.args.port k)) c.if-touched.false)
