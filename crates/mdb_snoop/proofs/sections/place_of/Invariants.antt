use Rattle.std.proofs.Common.{◌≡◌, ◌-◌, ◌≤◌, true, length, take, drop}
use Rattle.br_model.specs.Table.GroupPairs.{group_pair_cmp}
use Rattle.mdb_snoop.specs.Places.{all_below, all_above}
use Rattle.mdb_snoop.proofs.sections.place_of.Given as goal

abbrev pub invariant-loop-low : goal.invariant-loop-low
invariant-loop-low g l =
    (l.low ≤ l.high) × (l.high ≤ length l.sections)
    × (all_below group_pair_cmp l.key (take l.low l.sections) ≡ true)
    × (all_above group_pair_cmp l.key (drop l.high l.sections) ≡ true)

abbrev pub decreases-loop-low : goal.decreases-loop-low
decreases-loop-low g l = l.high - l.low
