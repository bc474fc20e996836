use Rattle.std.proofs.Common.{◌∙◌}
use Rattle.port_sets.specs.Numbers.{has_number}
use Rattle.mdb_snoop.proofs.PortNumbers.{ArePorts-kept}
use Rattle.mdb_snoop.proofs.Mapped.{both-due}
use Rattle.mdb_snoop.proofs.members.«Members+Moments».due.Goals as goal

pub returns-clause-value : goal.returns-clause-value
returns-clause-value c = c.and.ensures ∙ both-due c.args.now c.self.inside.ends c.self.inside.ports _ c.args.self.now c.members_ascend.ensures.ordered c.self.view_is c.due.ensures.members

pub returns-clause-ports : goal.returns-clause-ports
returns-clause-ports c = ArePorts-kept c.self.inside.ports _ (has_number c.due.result) c.self.invariant c.and.ensures
