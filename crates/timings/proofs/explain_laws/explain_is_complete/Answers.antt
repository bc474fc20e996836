use Rattle.timings.proofs.Explaining.{complete, refuted}
use Rattle.timings.proofs.explain_laws.explain_is_complete.Goals as goal

pub returns : goal.returns
returns c = record { none = complete; refuted = refuted }
