use Rattle.std.proofs.Common.{◌≡◌, length, drop}
use Rattle.br_model.specs.Text.Roster.{has_number}
use Rattle.br_model.specs.Text.Spelling.{name_of}
use Rattle.bridge_command.proofs.roster.Roster.name.Given as goal

abbrev pub invariant-loop-i : goal.invariant-loop-i
invariant-loop-i l =
    (has_number (drop l.i l.self.ports) l.port ≡ has_number l.self.ports l.port) × (name_of (drop l.i l.self.ports) l.port ≡ name_of l.self.ports l.port) × (l.i-end ≡ length l.self.ports)
