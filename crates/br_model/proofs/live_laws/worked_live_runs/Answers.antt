use Rattle.br_model.proofs.Worked.LiveRuns.{live, not_live}
use Rattle.br_model.proofs.live_laws.worked_live_runs.Goals as goal

pub returns : goal.returns
returns c = record { live = live; not_live = not_live }
