use Rattle.br_model.proofs.Control.CoursesTied.{said-tied, react-tied}
use Rattle.br_model.proofs.Control.EndsTied.{tied-start, tied-apply}
use Rattle.br_model.proofs.ends_laws.ends_are_tied.Goals as goal

pub returns : goal.returns
returns c = record { first = tied-start; changed = tied-apply; told = said-tied; kept = react-tied }
