use Rattle.timings.proofs.Meanwhile.{chip-classes, chip-complete, software-complete}
use Rattle.timings.proofs.outcome_laws.outcomes_are_complete.Goals as goal

pub returns : goal.returns
returns c = record { chip = chip-complete; classes = chip-classes; software = software-complete }
