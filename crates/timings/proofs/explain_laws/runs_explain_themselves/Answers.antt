use Rattle.timings.proofs.Explaining.{self}
use Rattle.timings.proofs.explain_laws.runs_explain_themselves.Goals as goal

pub returns : goal.returns
returns c = self
