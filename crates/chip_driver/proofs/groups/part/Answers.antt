use Rattle.std.proofs.Common.{◌≡◌, Some, None, cond, IsTrue, sym, ap, ◌∙◌, ◌↔◌, [], subst}
use Rattle.mdb_snoop.specs.Database.{ports_in}
use Rattle.chip_driver.specs.GroupRows.{group_fan}
use Rattle.chip_driver.proofs.GroupLoop.{parted_follow, parted_room, row_or_none, some_row}
use Rattle.chip_driver.proofs.groups.part.Goals as goal
use Rattle.chip_driver.proofs.groups.part.Goals.{then-is_empty, else-is_empty}

pub set_group-requires : goal.set_group-requires
set_group-requires c =
    let empty : IsTrue c.is_empty.result ↔ (ports_in c.part.new.self c.args.vid c.args.group ≡ []) = subst (λ ps. IsTrue c.is_empty.result ↔ (ps ≡ [])) c.members.ensures c.is_empty.ensures in
    let row : c.if-is_empty.row ≡ cond c.is_empty.result None (Some (group_fan c.args.shadow.now c.args.tables.now c.part.new.self (c.args.vid, c.args.group))) =
    elim c.if-is_empty.branch [
      | then-is_empty w ↦ w.row-is ∙ ap (λ b. cond b None (Some (group_fan c.args.shadow.now c.args.tables.now c.part.new.self (c.args.vid, c.args.group)))) (sym w.if-is_empty.true)
      | else-is_empty w ↦ w.row-is ∙ ap Some w.group_row.ensures
          ∙ ap (λ b. cond b None (Some (group_fan c.args.shadow.now c.args.tables.now c.part.new.self (c.args.vid, c.args.group)))) (sym w.if-is_empty.false)
    ] in
    parted_room c.args.shadow.now c.args.groups.now c.part.new.self c.args.vid c.args.port c.args.group c.if-is_empty.row c.args.tables.now c.requires c.part.ensures.members
    (some_row _ _ _ (row_or_none c.args.shadow.now c.part.new.self c.args.tables.now (c.args.vid, c.args.group) c.is_empty.result c.if-is_empty.row empty row)) c.members_ascend.ensures.few

pub returns-clause-follow : goal.returns-clause-follow
returns-clause-follow c =
    let empty : IsTrue c.is_empty.result ↔ (ports_in c.part.new.self c.args.vid c.args.group ≡ []) = subst (λ ps. IsTrue c.is_empty.result ↔ (ps ≡ [])) c.members.ensures c.is_empty.ensures in
    let row : c.if-is_empty.row ≡ cond c.is_empty.result None (Some (group_fan c.args.shadow.now c.args.tables.now c.part.new.self (c.args.vid, c.args.group))) =
    elim c.if-is_empty.branch [
      | then-is_empty w ↦ w.row-is ∙ ap (λ b. cond b None (Some (group_fan c.args.shadow.now c.args.tables.now c.part.new.self (c.args.vid, c.args.group)))) (sym w.if-is_empty.true)
      | else-is_empty w ↦ w.row-is ∙ ap Some w.group_row.ensures
          ∙ ap (λ b. cond b None (Some (group_fan c.args.shadow.now c.args.tables.now c.part.new.self (c.args.vid, c.args.group)))) (sym w.if-is_empty.false)
    ] in
    parted_follow c.args.shadow.now c.args.groups.now c.part.new.self c.args.vid c.args.port c.args.group c.if-is_empty.row c.args.tables.now _ c.requires
    (c.number-number.ensures.low, c.number-number.ensures.high)
    c.part.ensures.members (row_or_none c.args.shadow.now c.part.new.self c.args.tables.now (c.args.vid, c.args.group) c.is_empty.result c.if-is_empty.row empty row)
    c.set_group.ensures.row c.set_group.ensures.rest
