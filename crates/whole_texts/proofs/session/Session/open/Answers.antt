use Rattle.std.proofs.Common.{false, refl, arith}
use Rattle.scenario_play.specs.Playing.{played}
use Rattle.whole_texts.specs.Stages.{lone}
use Rattle.scenario_play.proofs.Steps.{begins}
use Rattle.whole_texts.proofs.Sessions.{opens, opens_sound}
use Rattle.whole_texts.proofs.session.Session.open.Goals as goal

pub returns-clause-sound : goal.returns-clause-sound
returns-clause-sound c = record { most = omega arith; awaiting = opens_sound (played c.in_ok-make.field-0 (lone c.new.result.world) _) (begins false _ c.in_ok-make.ensures c.new.ensures c.in_ok-first_text.ensures) }

pub returns-clause-at : goal.returns-clause-at
returns-clause-at c = record { taken = refl; so = opens _ (begins false _ c.in_ok-make.ensures c.new.ensures c.in_ok-first_text.ensures) }
