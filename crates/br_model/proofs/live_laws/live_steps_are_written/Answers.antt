use Rattle.br_model.proofs.Worked.LiveRuns.{written}
use Rattle.br_model.proofs.live_laws.live_steps_are_written.Goals as goal

pub returns : goal.returns
returns c = written
