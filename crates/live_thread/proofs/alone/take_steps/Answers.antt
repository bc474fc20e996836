use Rattle.std.proofs.Common.{◌+◌, false, List, drop, refl, sym, ap, subst, ◌∙◌, arith}
use Rattle.std.specs.List.{list_all}
use Rattle.std.proofs.Math.ListN.{drop_of_length-le}
use Rattle.lemmas.proofs.Lists.{drop_item}
use Rattle.br_model.specs.declared.steps.Step.{Step}
use Rattle.br_model.specs.Table.Domains.{chip_domains}
use Rattle.br_model.specs.Text.LineForms.{comes_by_line}
use Rattle.plane_record.specs.Pasts.{Past}
use Rattle.live_thread.proofs.Loops.{Goes, goes_more, goes_all}
use Rattle.live_thread.proofs.Standing.{first_from, rest_from}
use Rattle.live_thread.proofs.alone.take_steps.Goals as goal

pub loop-place-init : goal.loop-place-init
loop-place-init g c = record { goes = λ p t. t; by_line = c.requires.by_line; seat = c.requires.seat; same = refl }

pub take_step-requires-clause-by_line : goal.take_step-requires-clause-by_line
take_step-requires-clause-by_line g c =
    first_from (comes_by_line false (chip_domains c.loop-place.ran.setup.domains)) c.args.steps.now c.loop-place.place c.index-steps-place.result
    (omega arith) c.index-steps-place.is c.loop-place.invariant.by_line

pub loop-place-preserved : goal.loop-place-preserved
loop-place-preserved g c = record {
  goes = goes_more c.args.ran.now c.loop-place.ran c.take_step.new.ran c.index-steps-place.result (drop (c.loop-place.place + 1) c.args.steps.now) c.args.steps.now c.in_ok-take_step.ensures.ok
      (subst (λ (l : List Step). Goes c.args.ran.now c.loop-place.ran l c.args.steps.now)
      (drop_item c.args.steps.now c.loop-place.place c.index-steps-place.result (omega arith) c.index-steps-place.is) c.loop-place.invariant.goes);
  by_line =
      ap (λ (p : Past). list_all (comes_by_line false (chip_domains p.setup.domains)) (drop (c.loop-place.place + 1) c.args.steps.now)) c.in_ok-take_step.ensures.ok.so
      ∙ rest_from (comes_by_line false (chip_domains c.loop-place.ran.setup.domains)) c.args.steps.now c.loop-place.place c.index-steps-place.result
      (omega arith) c.index-steps-place.is c.loop-place.invariant.by_line;
  seat = c.in_ok-take_step.ensures.board ∙ (c.loop-place.invariant.seat ∙ sym (ap (λ (p : Past). p.board) c.in_ok-take_step.ensures.ok.so));
  same = c.in_ok-take_step.ensures.board ∙ c.loop-place.invariant.same;
}

pub returns : goal.returns
returns g c = record {
  ok = goes_all c.args.ran.now c.loop-place.ran c.args.steps.now
      (subst (λ (l : List Step). Goes c.args.ran.now c.loop-place.ran l c.args.steps.now) (drop_of_length-le c.args.steps.now (omega arith)) c.loop-place.invariant.goes);
  board = c.loop-place.invariant.same;
}
