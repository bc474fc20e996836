use Rattle.std.proofs.Common.{false, [], ◌∷◌, ◌++◌, List, refl, sym, ap, ◌∙◌, append_assoc, rules}
use Rattle.std.specs.Cmp.{first_so, second_so}
use Rattle.std.specs.List.{list_all}
use Rattle.br_model.specs.declared.steps.Step.{Step}
use Rattle.br_model.specs.Table.Domains.{chip_domains}
use Rattle.br_model.specs.Table.Setup.{Setup}
use Rattle.br_model.specs.Text.LineForms.{comes_by_line}
use Rattle.scenario_runner.proofs.Counting.{runs_none, runs_more}
use Rattle.scenario_runner.proofs.demo.do_steps.Goals as goal

pub loop-step-init : goal.loop-step-init
loop-step-init g c = record { parts = search rules; by_line = search rules; setup = refl; runs = runs_none _ _ }

pub loop-step-preserved : goal.loop-step-preserved
loop-step-preserved g c =
    let so_far = c.loop-step.invariant in
    let next = (rw c.in-Some.is at c.next.ensures.steps).0 in record {
      parts = so_far.parts ∙ ap (λ (l : List Step). c.loop-step.yielded ++ l) next ∙ sym (append_assoc c.loop-step.yielded (c.in-Some.step ∷ []) c.next.new.self.rest.items);
      by_line = second_so _ _ (ap (list_all (comes_by_line false (chip_domains c.args.world.now.setup.domains))) (sym next) ∙ so_far.by_line);
      setup = c.in_ok-do_step.ensures.setup ∙ so_far.setup;
      runs = runs_more _ _ _ _ _ _ _ _ so_far.runs c.in_ok-do_step.ensures.runs;
    }

pub do_step-requires : goal.do_step-requires
do_step-requires g c =
    let so_far = c.loop-step.invariant in
    let next = (rw c.in-Some.is at c.next.ensures.steps).0 in
    ap (λ (s : Setup). comes_by_line false (chip_domains s.domains) c.in-Some.step) so_far.setup
    ∙ first_so _ _ (ap (list_all (comes_by_line false (chip_domains c.args.world.now.setup.domains))) (sym next) ∙ so_far.by_line)
