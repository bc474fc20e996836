use Rattle.br_model.specs.Program.Outcomes.{scenario_lines}
use Rattle.br_model.proofs.Program.Completing.{never_bad, never_full, scenarios_apart}
use Rattle.br_model.proofs.ending_laws.what_ends_is_answered.Goals as goal

pub returns : goal.returns
returns c = record { bad = never_bad scenario_lines scenarios_apart; full = never_full scenario_lines scenarios_apart }
