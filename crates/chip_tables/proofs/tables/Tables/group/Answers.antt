use Rattle.std.proofs.Common.{ap, sym, ◌∙◌}
use Rattle.std.specs.Ordering.{nat_cmp}
use Rattle.std.specs.FinMap.Entries as entries
use Rattle.br_model.specs.Data.Maps.{get}
use Rattle.br_model.specs.Table.GroupPairs.{GroupPair, group_pair_cmp}
use Rattle.chip_tables.specs.GroupCells.{number_of, pair_from}
use Rattle.chip_tables.specs.Rows.{Rows}
use Rattle.chip_tables.proofs.Renamed.{get-renamed}
use Rattle.chip_tables.proofs.GroupRows.{group-order, pair-back}
use Rattle.chip_tables.proofs.tables.Tables.group.Goals as goal

pub returns : goal.returns
returns c =
    let k : GroupPair = (c.args.vid, c.args.group) in
    let es = c.self.inside.groups.entries in
    let small = c.group_key.ensures.below in
    c.get.ensures ∙ ap (λ (q : GroupPair). entries.find nat_cmp (number_of q) es) c.group_key.ensures.value
    ∙ sym (get-renamed group_pair_cmp pair_from k (number_of k) (group-order k small) (pair-back k small) es) ∙ ap (λ (t : Rows). get group_pair_cmp t.groups k) c.self.view_is
