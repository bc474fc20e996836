use Rattle.std.proofs.Common.{false, [], ◌∷◌, ◌++◌, List, ℕ, length, refl, sym, ap, ◌∙◌, subst, arith, append_assoc, append-nil}
use Rattle.br_model.specs.declared.steps.Step.{Step}
use Rattle.br_model.specs.Table.Domains.{chip_domains}
use Rattle.br_model.specs.Table.Setup.{Setup}
use Rattle.br_model.specs.Text.LineForms.{comes_by_line}
use Rattle.scenario_generator.specs.Stepping.{step_of}
use Rattle.scenario_runner.specs.Counting.{RunsOn}
use Rattle.scenario_runner.proofs.Counting.{runs_none, runs_more}
use Rattle.scenario_runner.proofs.demo.do_frames.Goals as goal

pub loop-made-init : goal.loop-made-init
loop-made-init g c = record { ran = ([], refl, runs_none _ _); setup = refl }

pub loop-made-preserved : goal.loop-made-preserved
loop-made-preserved g c =
    let so_far = c.loop-made.invariant in
    let done : List Step = so_far.ran.0 in
    let step : Step = step_of c.in-Some.made in
    let next = c.in-Some.ensures.gives in record {
      ran = (
        done ++ step ∷ [],
        so_far.ran.1 ∙ ap (λ (l : List Step). done ++ l) next ∙ sym (append_assoc done (step ∷ []) c.next.new.self),
        runs_more _ _ _ _ _ _ _ _ so_far.ran.2 c.in_ok-do_step.ensures.runs,
      );
      setup = c.in_ok-do_step.ensures.setup ∙ so_far.setup;
    }

pub loop-made-smaller : goal.loop-made-smaller
loop-made-smaller g c = omega (arith, ap length c.in-Some.ensures.gives)

pub do_step-requires : goal.do_step-requires
do_step-requires g c =
    let step : Step = step_of c.in-Some.made in
    ap (λ (s : Setup). comes_by_line false (chip_domains s.domains) step) c.loop-made.invariant.setup
    ∙ ap (λ (chips : List ℕ). comes_by_line false chips step) c.requires
    ∙ c.in-Some.ensures.by_line

pub returns : goal.returns
returns g c =
    let ran = c.loop-made.invariant.ran in
    let done : List Step = ran.0 in
    let none = c.in_default.ensures.gives.0 in
    subst (λ (l : List Step). RunsOn c.args.world.now c.args.tally.now l c.loop-made.world c.loop-made.tally)
    (sym (ran.1 ∙ ap (λ (l : List Step). done ++ l) none ∙ append-nil done)) ran.2
