use Rattle.scenario_text.proofs.StepsRead.{step_has_line}
use Rattle.scenario_text.proofs.laws.given_steps_have_lines.Goals as goal

pub returns : goal.returns
returns c = step_has_line
