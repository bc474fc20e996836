use Rattle.std.proofs.Common.{◌≡◌, [], ◌∷◌, ◌++◌, List, sym, ap, ◌∙◌, subst, append_assoc, rules}
use Rattle.std.proofs.lemmas.List.{append-nil}
use Rattle.std.specs.Cmp.{first_so, second_so}
use Rattle.std.specs.List.{list_all}
use Rattle.br_model.specs.declared.steps.Step.{Step}
use Rattle.br_model.specs.Text.LineForms.{comes_by_line}
use Rattle.br_model.specs.Text.Roster.{chips_of}
use Rattle.whole_texts.specs.Runs.{HasDone}
use Rattle.whole_texts.specs.Stages.{lone}
use Rattle.whole_texts.proofs.Runs.{none_left, run_begins, run_goes_on, run_steps}
use Rattle.whole_texts.proofs.running.do_steps.Goals as goal

pub loop-step-init : goal.loop-step-init
loop-step-init c = record {
  parts = search rules;
  by_line = search rules;
  done = run_begins c.args.roster.now c.new-stage.result.world c.begin.new.self.world c.len.ensures.declared c.in_ok-begin.ensures;
}

pub step-requires-clause-can : goal.step-requires-clause-can
step-requires-clause-can c =
    let so_far = c.loop-step.invariant in
    let next = (rw c.in-Some.is at c.next.ensures.steps).0 in
    run_steps c.args.roster.now _ _ c.in-Some.step so_far.done
    (first_so _ _ (ap (list_all (comes_by_line c.args.roster.now.check (chips_of c.args.roster.now.ports))) (sym next) ∙ so_far.by_line))

pub loop-step-preserved : goal.loop-step-preserved
loop-step-preserved c =
    let so_far = c.loop-step.invariant in
    let next = (rw c.in-Some.is at c.next.ensures.steps).0 in record {
      parts = so_far.parts ∙ ap (λ (l : List Step). c.loop-step.yielded ++ l) next ∙ sym (append_assoc c.loop-step.yielded (c.in-Some.step ∷ []) c.next.new.self.rest.items);
      by_line = second_so _ _ (ap (list_all (comes_by_line c.args.roster.now.check (chips_of c.args.roster.now.ports))) (sym next) ∙ so_far.by_line);
      done = run_goes_on c.args.roster.now _ _ _ c.in-Some.step _ so_far.done c.in_ok-step.ensures.so;
    }

pub returns : goal.returns
returns c =
    let so_far = c.loop-step.invariant in
    let left = c.loop-step.step-iterator.rest in
    let all : c.args.steps.items ≡ c.loop-step.yielded =
    so_far.parts ∙ ap (λ (l : List Step). c.loop-step.yielded ++ l) (none_left left.items (sym left.ok.0 ∙ c.in-None.ensures.steps.0)) ∙ append-nil c.loop-step.yielded in
    subst (λ (l : List Step). HasDone c.args.roster.now l (lone c.loop-step.stage.world)) (sym all) so_far.done
