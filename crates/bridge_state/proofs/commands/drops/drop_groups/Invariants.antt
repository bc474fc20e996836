use Rattle.std.proofs.Common.{◌≡◌, ◌++◌, take}
use Rattle.bridge_state.specs.Dropping.{is_meant}
use Rattle.bridge_state.proofs.Drops.{partings}
use Rattle.bridge_state.proofs.commands.drops.drop_groups.Given as goal

abbrev pub invariant-loop-vid : goal.invariant-loop-vid
invariant-loop-vid l = l.changes.items ≡ l.initial.changes.items ++ partings (is_meant l.vlan) l.port (take l.vid-index l.pairs)
