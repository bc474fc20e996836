use Rattle.std.proofs.Common.{◌≡◌, ◌++◌, map, take}
use Rattle.bridge_state.specs.Ending.{part}
use Rattle.bridge_state.proofs.ending.add_parts.Given as goal

abbrev pub invariant-loop-vid : goal.invariant-loop-vid
invariant-loop-vid l = l.changes.items ≡ l.fn.changes.items ++ map part (take l.vid-index l.members)
