use Rattle.timings.proofs.Meanwhile.{chip-sound, software-sound}
use Rattle.timings.proofs.outcome_laws.outcomes_are_sound.Goals as goal

pub returns : goal.returns
returns c = record { chip = chip-sound; software = software-sound }
