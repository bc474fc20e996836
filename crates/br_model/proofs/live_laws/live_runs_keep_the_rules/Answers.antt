use Rattle.br_model.proofs.Program.LiveRuns.{live_is, is_live}
use Rattle.br_model.proofs.live_laws.live_runs_keep_the_rules.Goals as goal

pub returns : goal.returns
returns c = record { only = live_is; always = is_live }
