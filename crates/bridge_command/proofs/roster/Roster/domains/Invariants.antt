use Rattle.std.proofs.Common.{◌≡◌, length, take}
use Rattle.br_model.specs.Text.Roster.{domains_of}
use Rattle.bridge_command.proofs.roster.Roster.domains.Given as goal

abbrev pub invariant-loop-i : goal.invariant-loop-i
invariant-loop-i l = (l.domains ≡ domains_of l.self.edition (take l.i l.self.ports)) × (l.i-end ≡ length l.self.ports)
