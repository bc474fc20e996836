use Rattle.std.proofs.Common.{◌&&◌, ap, ◌∙◌}
use Rattle.lemmas.proofs.Tests.{and-false}
use Rattle.chip_driver.specs.GroupRows.{is_among}
use Rattle.chip_driver.proofs.GroupLoop.{groups_left}
use Rattle.chip_driver.proofs.groups.refresh_any.Goals as goal

pub returns-else-is_member : goal.returns-else-is_member
returns-else-is_member c =
    groups_left _ c.args.shadow.now c.args.groups.now c.args.tables.now c.requires
    (λ k. ap (λ b. is_among c.args.vid k.0 && b) (c.is_member.ensures.none c.if-is_member.false k.0 k.1) ∙ and-false (is_among c.args.vid k.0))
