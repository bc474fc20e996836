use Rattle.std.proofs.Common.{arith, map}
use Rattle.std.proofs.lemmas.List.{length-map}
use Rattle.bridge_command.specs.Seen.{entry}
use Rattle.bridge_command.proofs.Counting.{most_ports}
use Rattle.bridge_command.proofs.roster.Roster.len.Goals as goal

pub returns-clause-most : goal.returns-clause-most
returns-clause-most c = omega (arith, most_ports (map entry c.self.inside.ports.entries) c.self.invariant.0, length-map c.self.inside.ports.entries entry, c.len.ensures.len)
