use Rattle.std.proofs.Common.{◌≡◌, ◌++◌, map}
use Rattle.bridge_state.specs.Ending.{router_off}
use Rattle.bridge_state.proofs.ending.add_routers.Given as goal

abbrev pub invariant-loop-number : goal.invariant-loop-number
invariant-loop-number l = l.changes.items ≡ l.fn.changes.items ++ map router_off l.yielded
