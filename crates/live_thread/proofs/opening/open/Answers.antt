use Rattle.std.proofs.Common.{◌≡◌, ◌<◌, ◌+◌, false, List, [], length, drop, refl, sym, ap, subst, ◌∙◌, arith}
use Rattle.std.specs.List.{list_all}
use Rattle.std.proofs.Math.ListN.{drop_of_length-le}
use Rattle.lemmas.proofs.Lists.{drop_item}
use Rattle.br_model.specs.declared.steps.Step.{Step}
use Rattle.br_model.specs.Table.Domains.{chip_domains}
use Rattle.br_model.specs.Text.LineForms.{comes_by_line}
use Rattle.plane_record.specs.Pasts.{Past}
use Rattle.live_thread.proofs.Loops.{Opens, opens_first, opens_more, opens_here, opens_all}
use Rattle.live_thread.proofs.Standing.{first_from, rest_from}
use Rattle.live_thread.proofs.opening.open.Goals as goal

pub loop-place-init : goal.loop-place-init
loop-place-init g c = record { opens = opens_first c.args.ran.now c.args.steps.now c.requires.idle; by_line = c.requires.by_line; seat = c.requires.seat; same = refl }

pub do_step-requires-clause-by_line : goal.do_step-requires-clause-by_line
do_step-requires-clause-by_line g c =
    first_from (comes_by_line false (chip_domains c.loop-place.ran.setup.domains)) c.args.steps.now c.loop-place.place c.index-steps-place.result
    (omega arith) c.index-steps-place.is c.loop-place.invariant.by_line

pub do_step-requires-clause-held : goal.do_step-requires-clause-held
do_step-requires-clause-held g c = c.loop-place.invariant.opens.idle.held

pub loop-place-preserved : goal.loop-place-preserved
loop-place-preserved g c = record {
  opens =
      subst (λ (p : Past). Opens c.args.ran.now p (drop (c.loop-place.place + 1) c.args.steps.now) c.args.steps.now) (sym c.in_ok-do_step.ensures.ok)
      (opens_more c.args.ran.now c.loop-place.ran c.index-steps-place.result (drop (c.loop-place.place + 1) c.args.steps.now) c.args.steps.now (sym c.is_frame.ensures ∙ c.if-is_frame.false)
      (subst (λ (l : List Step). Opens c.args.ran.now c.loop-place.ran l c.args.steps.now)
      (drop_item c.args.steps.now c.loop-place.place c.index-steps-place.result (omega arith) c.index-steps-place.is) c.loop-place.invariant.opens));
  by_line =
      ap (λ (p : Past). list_all (comes_by_line false (chip_domains p.setup.domains)) (drop (c.loop-place.place + 1) c.args.steps.now)) c.in_ok-do_step.ensures.ok
      ∙ rest_from (comes_by_line false (chip_domains c.loop-place.ran.setup.domains)) c.args.steps.now c.loop-place.place c.index-steps-place.result
      (omega arith) c.index-steps-place.is c.loop-place.invariant.by_line;
  seat = c.in_ok-do_step.ensures.board ∙ (c.loop-place.invariant.seat ∙ sym (ap (λ (p : Past). p.board) c.in_ok-do_step.ensures.ok));
  same = c.in_ok-do_step.ensures.board ∙ c.loop-place.invariant.same;
}

pub returns-then-is_frame : goal.returns-then-is_frame
returns-then-is_frame g c =
    let there : c.loop-place.place < length c.args.steps.now = omega arith in
    let left = drop_item c.args.steps.now c.loop-place.place c.index-steps-place.result there c.index-steps-place.is in
    let here = opens_here c.args.ran.now c.loop-place.ran c.index-steps-place.result (drop (c.loop-place.place + 1) c.args.steps.now) c.args.steps.now (sym c.is_frame.ensures ∙ c.if-is_frame.true)
    (subst (λ (l : List Step). Opens c.args.ran.now c.loop-place.ran l c.args.steps.now) left c.loop-place.invariant.opens) in
    record {
      opened = here.0;
      later = (omega arith, left ∙ here.1);
      idle = c.loop-place.invariant.opens.idle;
      board = c.loop-place.invariant.same;
    }

pub returns : goal.returns
returns g c =
    let none : drop c.loop-place.place c.args.steps.now ≡ [] = drop_of_length-le c.args.steps.now (omega arith) in
    let all = opens_all c.args.ran.now c.loop-place.ran c.args.steps.now (subst (λ (l : List Step). Opens c.args.ran.now c.loop-place.ran l c.args.steps.now) none c.loop-place.invariant.opens) in
    record {
      opened = all.0;
      later = (omega arith, drop_of_length-le c.args.steps.now (omega arith) ∙ all.1);
      idle = c.loop-place.invariant.opens.idle;
      board = c.loop-place.invariant.same;
    }
