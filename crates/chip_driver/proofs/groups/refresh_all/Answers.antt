use Rattle.std.proofs.Common.{◌≡◌, ℕ, Bool, ◌&&◌, List, Option, sym, ap, ◌∙◌, arith}
use Rattle.br_model.specs.Table.GroupPairs.{GroupPair}
use Rattle.br_model.specs.Table.Groups.{Membership}
use Rattle.chip_driver.specs.GroupRows.{is_among, is_member}
use Rattle.chip_driver.proofs.GroupLoop.{all_so_far, room_so_far, next_written, next_kept, next_past}
use Rattle.chip_driver.proofs.groups.refresh_all.Goals as goal
use Rattle.chip_driver.proofs.groups.refresh_all.Goals.{in-Some+then-is_asked, in-Some+else-is_asked, in_default}

pub set_group-requires : goal.set_group-requires
set_group-requires c =
    room_so_far (λ k. is_among c.args.vid k.0 && is_member c.args.groups.now c.args.p k) c.args.shadow.now c.args.groups.now c.loop-i.i _ c.args.tables.now c.loop-i.tables c.loop-i.invariant
    (sym c.pair.ensures ∙ c.in-Some.is) c.group_row-row.result c.members_ascend.ensures.few

tested : (ms : List Membership) (vid : Option ℕ) (p : ℕ) (k : GroupPair) (member asked : Bool) → member ≡ is_member ms p k → asked ≡ (is_among vid k.0 && member)
    → (is_among vid k.0 && is_member ms p k) ≡ asked
tested ms vid p k member asked member_is asked_is = sym (asked_is ∙ ap (λ b. is_among vid k.0 && b) member_is)

pub loop-i-preserved : goal.loop-i-preserved
loop-i-preserved c =
    elim c.match-pair.branch [
      | in-Some+then-is_asked w ↦
          rw (w.tables-is)
          (next_written (λ k. is_among c.args.vid k.0 && is_member c.args.groups.now c.args.p k) c.args.shadow.now c.args.groups.now c.loop-i.i _ c.args.tables.now c.loop-i.tables c.loop-i.invariant
          (sym c.pair.ensures ∙ w.in-Some.is) w.group_row-row.result w.set_group.new.self
          (tested c.args.groups.now c.args.vid c.args.p _ _ _ (w.member_at-member.ensures _ _ (sym c.pair.ensures ∙ w.in-Some.is)) w.is_asked.ensures
          ∙ w.if-is_asked.true) w.group_row-row.ensures w.set_group.ensures.row w.set_group.ensures.rest)
      | in-Some+else-is_asked w ↦
          rw (w.tables-is)
          (next_kept (λ k. is_among c.args.vid k.0 && is_member c.args.groups.now c.args.p k) c.args.shadow.now c.args.groups.now c.loop-i.i _ c.args.tables.now c.loop-i.tables c.loop-i.invariant
          (sym c.pair.ensures ∙ w.in-Some.is) (tested c.args.groups.now c.args.vid c.args.p _ _ _ (w.member_at-member.ensures _ _ (sym c.pair.ensures ∙ w.in-Some.is)) w.is_asked.ensures
          ∙ w.if-is_asked.false))
      | in_default w ↦
          rw (w.tables-is)
          (next_past (λ k. is_among c.args.vid k.0 && is_member c.args.groups.now c.args.p k) c.args.shadow.now c.args.groups.now c.loop-i.i c.args.tables.now c.loop-i.tables c.loop-i.invariant
          (sym c.pair.ensures ∙ w.in_default.is))
    ]

pub returns : goal.returns
returns c =
    all_so_far (λ k. is_among c.args.vid k.0 && is_member c.args.groups.now c.args.p k) c.args.shadow.now c.args.groups.now c.loop-i.i c.args.tables.now c.loop-i.tables c.loop-i.invariant
    (let e : c.loop-i.i ≡ c.pairs-i-end.result = omega arith in e ∙ c.pairs-i-end.ensures)
