use Rattle.std.proofs.Common.{◌≡◌, ◌+◌, ◌*◌, ◌≤◌, ◌++◌, length}
use Rattle.std.specs.List.{flat_map}
use Rattle.br_model.specs.Table.Domains.{port_places}
use Rattle.bridge_state.specs.Following.{config_lines}
use Rattle.bridge_state.proofs.spanning_tree.add_frames.Given as goal

abbrev pub invariant-loop-number : goal.invariant-loop-number
invariant-loop-number l = record {
  lines : l.lines.lines ≡ l.fn.lines.lines ++ flat_map (config_lines l.own l.tree) l.yielded;
  saved : l.lines.saved ≡ l.fn.lines.saved;
  rows : port_places + 2 ≤ l.lines.rows + length l.yielded;
  bytes : 60 * (port_places + 1) ≤ l.lines.bytes + 60 * length l.yielded;
}
