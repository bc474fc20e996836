use Rattle.timings.proofs.Worked.{explains-late, refutes-not-late}
use Rattle.timings.proofs.worked_laws.worked_explanations.Goals as goal

pub returns : goal.returns
returns c = record { late = explains-late; not_late = refutes-not-late }
