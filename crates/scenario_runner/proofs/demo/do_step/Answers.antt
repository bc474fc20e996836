use Rattle.std.proofs.Common.{◌++◌, List, ap, ◌∙◌, subst}
use Rattle.br_model.specs.declared.transcript.Line.{Line}
use Rattle.br_model.specs.Plane.World.{Stepped}
use Rattle.br_model.proofs.Plane.Applied.{step-setup}
use Rattle.scenario_generator.specs.Stepping.{step_of}
use Rattle.scenario_runner.specs.Counting.{Adds}
use Rattle.scenario_runner.proofs.Counting.{runs_step}
use Rattle.scenario_runner.proofs.demo.do_step.Goals as goal

pub returns-clause-runs : goal.returns-clause-runs
returns-clause-runs g c =
    let told = c.in_ok-do_made.ensures in
    let same = told.added ∙ ap (λ (l : List Line). l ++ told.lines) c.clear.ensures.lines in
    runs_step _ _ _ _ _ _ told.so (subst (λ (l : List Line). Adds c.args.tally.now l c.add_all.new.self) same c.in_ok-add_all.ensures)

pub returns-clause-setup : goal.returns-clause-setup
returns-clause-setup g c = ap (λ (x : Stepped). x.0.setup) c.in_ok-do_made.ensures.so ∙ step-setup c.args.world.now (step_of c.args.made)
