use Rattle.std.proofs.Common.{◌≡◌, ◌++◌, List, [], ap, sym, ◌∙◌, arith}
use Rattle.br_model.specs.declared.steps.Step.{Step}
use Rattle.scenario_generator.specs.Generating.{steps_left}
use Rattle.scenario_generator.proofs.Generated.{none_left}
use Rattle.scenario_generator.proofs.frame_steps.FrameSteps.next.Goals as goal

pub returns-then-left-eq0-clause-gives : goal.returns-then-left-eq0-clause-gives
returns-then-left-eq0-clause-gives c =
    let frames = c.self.inside.frames in
    let none : steps_left frames ≡ [] = none_left frames.left frames.i frames.x (omega (arith, c.left.ensures, c.if-left-eq0.true)) in (
      sym c.self.view_is ∙ ap (λ (l : List Step). l ++ steps_left frames) c.in_default.ensures.gives.0 ∙ none,
      ap (λ (l : List Step). l ++ steps_left frames) c.in_default.ensures.gives.1 ∙ none,
    )
