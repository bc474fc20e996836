use Rattle.std.proofs.Common.{◌≡◌, ◌++◌, length, take}
use Rattle.std.specs.List.{flat_map}
use Rattle.std.specs.String.{string_bytes}
use Rattle.br_model.specs.Text.Head.{port_line}
use Rattle.scenario_text.proofs.head.append_ports.Given as goal

abbrev pub invariant-loop-i : goal.invariant-loop-i
invariant-loop-i l = (string_bytes l.to ≡ string_bytes l.fn.to ++ flat_map port_line (take l.i l.r.ports)) × (l.i-end ≡ length l.r.ports)
