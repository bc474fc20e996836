use Rattle.std.proofs.Common.{◌≡◌, ◌++◌, map}
use Rattle.std.specs.Prelude.{vec_capacity}
use Rattle.bridge_state.specs.Following.{state_change}
use Rattle.bridge_state.proofs.spanning_tree.add_states.Given as goal

abbrev pub invariant-loop-number : goal.invariant-loop-number
invariant-loop-number l = record {
  states : l.changes.items ≡ l.fn.changes.items ++ map (state_change l.tree) l.yielded;
  capacity : vec_capacity l.changes ≡ vec_capacity l.fn.changes;
}
