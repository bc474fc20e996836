use Rattle.std.proofs.Common.{◌∙◌, ap}
use Rattle.br_model.specs.declared.scenario.Said.TheVariants.{Does}
use Rattle.std.specs.declared.result.Result.TheVariants.{Ok}
use Rattle.br_model.specs.declared.steps.Step.{Step}
use Rattle.br_model.proofs.Text.WrittenLines.{step_read, given_whole}
use Rattle.br_model.proofs.written_laws.step_is_read.Goals as goal

pub returns-clause-any : goal.returns-clause-any
returns-clause-any c = step_read

pub returns-clause-whole : goal.returns-clause-whole
returns-clause-whole c = λ r s place comes declared line whole. step_read r s place comes declared line ∙ ap (λ (t : Step). Ok (Does t)) (given_whole s whole)
