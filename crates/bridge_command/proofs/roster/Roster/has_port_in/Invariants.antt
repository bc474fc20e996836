use Rattle.std.proofs.Common.{◌≡◌, ◌==◌, length, drop}
use Rattle.std.specs.List.{list_any}
use Rattle.br_model.specs.Text.Roster.{Entry}
use Rattle.bridge_command.proofs.roster.Roster.has_port_in.Given as goal

abbrev pub invariant-loop-i : goal.invariant-loop-i
invariant-loop-i l = (list_any (λ (e : Entry). e.dom == l.dom) (drop l.i l.self.ports) ≡ list_any (λ (e : Entry). e.dom == l.dom) l.self.ports) × (l.i-end ≡ length l.self.ports)
