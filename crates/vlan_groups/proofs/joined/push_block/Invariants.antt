use Rattle.std.proofs.Common.{◌≡◌, ◌++◌}
use Rattle.vlan_groups.specs.Joined.{vids_in}
use Rattle.vlan_groups.proofs.joined.push_block.Given as goal

abbrev pub invariant-loop-n : goal.invariant-loop-n
invariant-loop-n l = l.vids.items ≡ l.initial.vids.items ++ vids_in l.i l.yielded
