use Rattle.std.proofs.Common.{false, [], ◌∷◌, ◌++◌, List, ℕ, sym, ap, ◌∙◌, subst, Err, append_assoc, arith}
use Rattle.std.proofs.lemmas.Result.{err_from_is_err_and}
use Rattle.std.specs.Cmp.{first_so, second_so}
use Rattle.std.specs.List.{list_all}
use Rattle.br_model.specs.declared.steps.Step.{Step}
use Rattle.br_model.specs.Text.LineForms.{comes_by_line}
use Rattle.br_model.specs.Text.Roster.{chips_of}
use Rattle.scenario_reader.specs.Reading.{IsBehindDeclarations, ReaderState}
use Rattle.scenario_runner.proofs.Doing.{breaks_off, does_more, lacks_step}
use Rattle.run_status.proofs.Writing.{grows_by}
use Rattle.scenario_runner.proofs.replay.do_steps.Goals as goal

pub loop-step-preserved : goal.loop-step-preserved
loop-step-preserved g c =
    let so_far = c.loop-step.invariant in
    let next = (rw c.in-Some.is at c.next.ensures.steps).0 in record {
      parts = so_far.parts ∙ ap (λ (l : List Step). c.loop-step.yielded ++ l) next ∙ sym (append_assoc c.loop-step.yielded (c.in-Some.step ∷ []) c.next.new.self.rest.items);
      by_line = second_so _ _ (ap (list_all (comes_by_line false (chips_of c.args.session.now.reader.roster.ports))) (sym next) ∙ so_far.by_line);
      reader = c.in_ok-step.ensures.does.reader ∙ so_far.reader;
      same = c.in_ok-step.ensures.same ∙ so_far.same;
      ready = c.in_ok-step.ensures.ready;
      does = does_more _ _ _ _ _ _ _ _ _ _ _ _ so_far.does c.in_ok-put_if_full.ensures.moved c.in_ok-step.ensures.does;
      grows = grows_by _ _ _ _ so_far.grows c.in_ok-put_if_full.ensures.moved.wrote;
      later = omega (arith, so_far.later, c.put_if_full.ensures.cause.later);
    }

pub step-requires-clause-by_line : goal.step-requires-clause-by_line
step-requires-clause-by_line g c =
    let so_far = c.loop-step.invariant in
    let next = (rw c.in-Some.is at c.next.ensures.steps).0 in
    let chips = λ (r : ReaderState). chips_of r.roster.ports in
    ap (λ (l : List ℕ). comes_by_line false l c.in-Some.step) (ap chips so_far.reader)
    ∙ first_so _ _ (ap (list_all (comes_by_line false (chips_of c.args.session.now.reader.roster.ports))) (sym next) ∙ so_far.by_line)

pub step-requires-clause-behind : goal.step-requires-clause-behind
step-requires-clause-behind g c =
    let so_far = c.loop-step.invariant in
    subst (λ (r : ReaderState). IsBehindDeclarations r.roster) (sym so_far.reader) c.requires.behind

pub returns-in_err-put_if_full-clause-halts : goal.returns-in_err-put_if_full-clause-halts
returns-in_err-put_if_full-clause-halts g c =
    let so_far = c.loop-step.invariant in
    let err = err_from_is_err_and c.from_residual.result c.from_residual.ensures.1 in
    breaks_off _ _ _ _ _ _ _ _ _ _ _ _ so_far.parts so_far.does c.in_err-put_if_full.ensures.breaks (err.1 ∙ ap Err err.2)

pub returns-in_err-put_if_full-clause-grows : goal.returns-in_err-put_if_full-clause-grows
returns-in_err-put_if_full-clause-grows g c = grows_by _ _ _ _ c.loop-step.invariant.grows c.in_err-put_if_full.ensures.breaks.2

pub returns-in_err-step-clause-halts : goal.returns-in_err-step-clause-halts
returns-in_err-step-clause-halts g c =
    let so_far = c.loop-step.invariant in
    let err = err_from_is_err_and c.from_residual-in_err-step.result c.from_residual-in_err-step.ensures.1 in
    lacks_step _ _ _ _ _ _ _ _ _ _ _ _ _ so_far.parts so_far.does c.in_ok-put_if_full.ensures.moved c.in_err-step.ensures.err (err.1 ∙ ap Err err.2)

pub returns-in_err-step-clause-grows : goal.returns-in_err-step-clause-grows
returns-in_err-step-clause-grows g c = grows_by _ _ _ _ c.loop-step.invariant.grows c.in_ok-put_if_full.ensures.moved.wrote
