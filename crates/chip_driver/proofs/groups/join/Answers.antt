use Rattle.chip_driver.proofs.GroupLoop.{joined_follow, joined_room}
use Rattle.chip_driver.proofs.groups.join.Goals as goal

pub set_group-requires : goal.set_group-requires
set_group-requires c =
    joined_room c.args.shadow.now c.args.groups.now _ c.args.vid c.args.port c.args.group c.group_row-row.result c.args.tables.now c.requires.follow c.join.ensures c.members_ascend.ensures.few

pub returns-clause-follow : goal.returns-clause-follow
returns-clause-follow c =
    joined_follow c.args.shadow.now c.args.groups.now _ c.args.vid c.args.port c.args.group _ c.args.tables.now _ c.requires.follow (c.number-number.ensures.low, c.number-number.ensures.high)
    c.join.ensures c.group_row-row.ensures c.set_group.ensures.row c.set_group.ensures.rest
