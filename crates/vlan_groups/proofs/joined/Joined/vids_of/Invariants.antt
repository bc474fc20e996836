use Rattle.std.proofs.Common.{◌≡◌}
use Rattle.std.specs.List.{flat_map}
use Rattle.vlan_groups.proofs.Walks.{block_vids}
use Rattle.vlan_groups.proofs.joined.Joined.vids_of.Given as goal

abbrev pub invariant-loop-i : goal.invariant-loop-i
invariant-loop-i l = l.vids.items ≡ flat_map (block_vids l.self l.port) l.yielded
