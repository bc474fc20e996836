use Rattle.std.proofs.Common.{◌≡◌, ◌≤◌, Option, None, length, ap, sym, subst, ◌∙◌, not, arith}
use Rattle.std.specs.Ordering.{nat_cmp, eq_by_cmp}
use Rattle.std.specs.FinMap.Entries as entries
use Rattle.br_model.specs.Data.Maps.{put, without}
use Rattle.br_model.specs.Table.GroupPairs.{GroupPair, group_pair_cmp, max_pairs}
use Rattle.open_addressing.specs.Finite.{Table}
use Rattle.chip_tables.specs.declared.rows.FanRow.{FanRow}
use Rattle.chip_tables.specs.GroupCells.{number_of, pair_from, by_group}
use Rattle.chip_tables.specs.Rows.{Rows, set_at}
use Rattle.chip_tables.proofs.Placed.{length-new}
use Rattle.chip_tables.proofs.Renamed.{put-renamed, without-renamed, length-renamed}
use Rattle.chip_tables.proofs.GroupRows.{group-order, pair-back}
use Rattle.chip_tables.proofs.tables.Tables.set_group.Goals as goal

pub insert-requires-clause-room : goal.insert-requires-clause-room
insert-requires-clause-room c none =
    let k : GroupPair = (c.args.vid, c.args.group) in
    let es = c.self.inside.groups.entries in
    let small = c.group_key.ensures.below in
    let absent : entries.find nat_cmp (number_of k) es ≡ None = ap (λ (q : GroupPair). entries.find nat_cmp (number_of q) es) (sym c.group_key.ensures.value) ∙ none in
    let given : length
    (put group_pair_cmp c.args.self.now.groups k c.in-Some.row) ≤ max_pairs =
    subst (λ (r : Option FanRow). length (set_at group_pair_cmp c.args.self.now.groups k r) ≤ max_pairs) c.in-Some.is c.requires in
    let same : length (put group_pair_cmp c.args.self.now.groups k c.in-Some.row) ≡ length (entries.put nat_cmp (number_of k) c.in-Some.row es) =
    ap (λ (t : Rows). length (put group_pair_cmp t.groups k c.in-Some.row)) (sym c.self.view_is)
    ∙ ap length (put-renamed group_pair_cmp pair_from k (number_of k) (group-order k small) (pair-back k small) c.in-Some.row es)
    ∙ length-renamed group_pair_cmp pair_from (entries.put nat_cmp (number_of k) c.in-Some.row es) in
    let more = length-new (number_of k) c.in-Some.row es absent in
    omega (arith, c.self.invariant.1)

pub returns-in-Some-clause-row : goal.returns-in-Some-clause-row
returns-in-Some-clause-row c =
    let k : GroupPair = (c.args.vid, c.args.group) in
    let es = c.self.inside.groups.entries in
    let small = c.group_key.ensures.below in
    ap (λ (t : Table FanRow). by_group t.entries) c.insert.ensures.entries ∙ ap (λ (q : GroupPair). by_group (entries.put nat_cmp (number_of q) c.in-Some.row es)) c.group_key.ensures.value
    ∙ sym (put-renamed group_pair_cmp pair_from k (number_of k) (group-order k small) (pair-back k small) c.in-Some.row es)
    ∙ ap (λ (t : Rows). put group_pair_cmp t.groups k c.in-Some.row) c.self.view_is
    ∙ ap (λ (r : Option FanRow). set_at group_pair_cmp c.args.self.now.groups k r) (sym c.in-Some.is)

pub returns-in-None-clause-row : goal.returns-in-None-clause-row
returns-in-None-clause-row c =
    let k : GroupPair = (c.args.vid, c.args.group) in
    let es = c.self.inside.groups.entries in
    let small = c.group_key-in-None.ensures.below in
    ap (λ (t : Table FanRow). by_group t.entries) c.take.ensures.rest
    ∙ ap (λ (q : GroupPair). by_group (entries.where_key nat_cmp (λ x. not (eq_by_cmp nat_cmp (number_of q) x)) es)) c.group_key-in-None.ensures.value
    ∙ sym (without-renamed group_pair_cmp pair_from k (number_of k) (group-order k small) (pair-back k small) es) ∙ ap (λ (t : Rows). without group_pair_cmp t.groups k) c.self.view_is
    ∙ ap (λ (r : Option FanRow). set_at group_pair_cmp c.args.self.now.groups k r) (sym c.in-None.is)
