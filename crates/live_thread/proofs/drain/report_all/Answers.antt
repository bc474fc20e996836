use Rattle.std.proofs.Common.{◌≡◌, ◌<◌, None, Some, sym, ap, subst, ◌∙◌}
use Rattle.plane_record.specs.Pasts.{Past}
use Rattle.live_thread.proofs.Loops.{reports_first, reports_more}
use Rattle.live_thread.proofs.Standing.{first_is, still_has, still_there}
use Rattle.live_thread.proofs.Telling.{first_of, one_less, reports_left, told_all, told_refused}
use Rattle.live_thread.specs.Draining.{HasTold}
use Rattle.live_thread.proofs.drain.report_all.Goals as goal

pub loop-report-init : goal.loop-report-init
loop-report-init c = reports_first c.args.ran.now c.args.dom

pub first_report-requires : goal.first_report-requires
first_report-requires c = still_there c.args.ran.now c.loop-report.ran c.plane.result.now c.args.dom c.plane.ensures c.loop-report.invariant.drains c.requires.chip

pub report-requires : goal.report-requires
report-requires c = still_has c.args.ran.now c.loop-report.ran c.args.dom c.loop-report.invariant.drains c.requires.chip

pub first_report-next-requires : goal.first_report-next-requires
first_report-next-requires c =
    still_there c.args.ran.now c.report.new.self c.plane-in-Some.result.now c.args.dom c.plane-in-Some.ensures
    (reports_more c.args.ran.now c.loop-report.ran c.report.new.self c.args.dom c.in_ok-report.ensures.ok c.loop-report.invariant).drains c.requires.chip

pub loop-report-preserved : goal.loop-report-preserved
loop-report-preserved c = reports_more c.args.ran.now c.loop-report.ran c.report.new.self c.args.dom c.in_ok-report.ensures.ok c.loop-report.invariant

pub loop-report-smaller : goal.loop-report-smaller
loop-report-smaller c =
    let next = first_is c.report.new.self c.plane-in-Some.result.now c.args.dom c.first_report-next.result c.plane-in-Some.ensures c.first_report-next.ensures in
    subst (λ (p : Past). reports_left p c.args.dom < reports_left c.loop-report.ran c.args.dom) (sym c.in_ok-report.ensures.ok)
    (one_less c.loop-report.ran c.args.dom c.in-Some.report (first_is c.loop-report.ran c.plane.result.now c.args.dom (Some c.in-Some.report) c.plane.ensures c.in-Some.ensures)
    (λ again. c.is_same.ensures.another c.if-is_same.false
    (let e : Some c.first_report-next.result ≡ Some (Some c.in-Some.report) = sym next ∙ (ap (λ (p : Past). first_of p c.args.dom) c.in_ok-report.ensures.ok ∙ again) in cc)))

pub returns-then-is_same : goal.returns-then-is_same
returns-then-is_same c =
    let next = first_is c.report.new.self c.plane-in-Some.result.now c.args.dom c.first_report-next.result c.plane-in-Some.ensures c.first_report-next.ensures in
    let r = reports_more c.args.ran.now c.loop-report.ran c.report.new.self c.args.dom c.in_ok-report.ensures.ok c.loop-report.invariant in
    record {
      ok = r.drains;
      keeps = r.keeps;
      told =
          subst (λ (p : Past). HasTold p c.args.dom) (sym c.in_ok-report.ensures.ok)
          (told_refused c.loop-report.ran c.args.dom c.in-Some.report (first_is c.loop-report.ran c.plane.result.now c.args.dom (Some c.in-Some.report) c.plane.ensures c.in-Some.ensures)
          (sym (ap (λ (p : Past). first_of p c.args.dom) c.in_ok-report.ensures.ok) ∙ (next ∙ ap (λ x. Some x) (c.is_same.ensures.same c.if-is_same.true))));
      others = r.others;
    }

pub returns : goal.returns
returns c = record {
  ok = c.loop-report.invariant.drains;
  keeps = c.loop-report.invariant.keeps;
  told = told_all c.loop-report.ran c.args.dom (first_is c.loop-report.ran c.plane.result.now c.args.dom None c.plane.ensures c.in_default.ensures);
  others = c.loop-report.invariant.others;
}
