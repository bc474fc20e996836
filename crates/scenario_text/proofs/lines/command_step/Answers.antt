use Rattle.std.proofs.Common.{ap}
use Rattle.br_model.specs.Text.LineForms.{commanded}
use Rattle.scenario_text.proofs.lines.command_step.Goals as goal

pub returns-in-Ok-clause-value : goal.returns-in-Ok-clause-value
returns-in-Ok-clause-value c = ap commanded c.in-Ok.ensures

pub returns-in-Err-clause-value : goal.returns-in-Err-clause-value
returns-in-Err-clause-value c = ap commanded c.in-Err.ensures
