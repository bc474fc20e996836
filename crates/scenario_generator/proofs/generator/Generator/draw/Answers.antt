use Rattle.std.proofs.Common.{◌++◌, ap, sym, ◌∙◌}
use Rattle.scenario_generator.specs.Generating.{At, next_steps, steps_left}
use Rattle.scenario_generator.proofs.Generated.{steps_go_on}
use Rattle.scenario_generator.proofs.generator.Generator.draw.Goals as goal

pub returns-clause-rest : goal.returns-clause-rest
returns-clause-rest c =
    steps_go_on c.args.self.now c.requires ∙ ap (λ (g : At). next_steps c.args.self.now ++ steps_left g) (sym c.go_on.ensures)
