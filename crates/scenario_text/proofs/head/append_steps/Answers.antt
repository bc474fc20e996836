use Rattle.std.specs.String.{string_bytes}
use Rattle.br_model.specs.Text.ScenarioText.{names_declared, step_text}
use Rattle.scenario_text.proofs.Walks.{pass_later, passes, text_all, text_on}
use Rattle.scenario_text.proofs.head.append_steps.Goals as goal

pub append_line-requires : goal.append_line-requires
append_line-requires c =
    passes (step_text c.args.r.now.ports) (names_declared c.args.r.now.ports) c.args.steps.now c.loop-step.step-index c.step-item.result c.loop-step-test.true c.step-item.is c.loop-step.invariant.1

pub loop-step-preserved : goal.loop-step-preserved
loop-step-preserved c = (
  text_on (step_text c.args.r.now.ports) (names_declared c.args.r.now.ports) c.args.steps.now c.loop-step.step-index c.step-item.result c.loop-step-test.true c.step-item.is _ _ _
      c.loop-step.invariant.0 c.in_ok-append_line.ensures,
  pass_later (step_text c.args.r.now.ports) (names_declared c.args.r.now.ports) c.args.steps.now c.loop-step.step-index c.step-item.result c.loop-step-test.true c.step-item.is c.loop-step.invariant.1,
)

pub returns : goal.returns
returns c = text_all (step_text c.args.r.now.ports) c.args.steps.now c.loop-step.step-index (string_bytes c.loop-step.to) _ c.loop-step-test.false c.loop-step.invariant.0
