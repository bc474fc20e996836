use Rattle.timings.proofs.Explaining.{sound-explains, sound-timing}
use Rattle.timings.proofs.explain_laws.explain_is_sound.Goals as goal

pub returns : goal.returns
returns c = record { timing = sound-timing; explains = sound-explains }
