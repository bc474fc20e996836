use Rattle.std.proofs.Common.{◌+◌, sym, subst, ◌∙◌, arith}
use Rattle.plane_record.specs.Pasts.{Past}
use Rattle.live_thread.proofs.Loops.{ReportsBelow, all_reported, reports_none}
use Rattle.live_thread.proofs.Standing.{has_own, reports_five, reports_next, reports_none_there}
use Rattle.live_thread.proofs.drain.report_chips.Goals as goal
use Rattle.live_thread.proofs.drain.report_chips.Goals.{then-has_chip+in_ok-report_all, else-has_chip}

pub loop-number-init : goal.loop-number-init
loop-number-init c = reports_none c.args.ran.now

pub report_all-requires : goal.report_all-requires
report_all-requires c =
    record { chip = has_own c.args.ran.now c.loop-number.ran c.args.domains.now c.in-Some.dom c.loop-number.invariant.drains c.requires.domains (sym c.has_chip.ensures ∙ c.if-has_chip.true) }

pub loop-number-preserved : goal.loop-number-preserved
loop-number-preserved c = elim c.if-has_chip.branch [
  | then-has_chip+in_ok-report_all w ↦
      subst (λ (p : Past). ReportsBelow c.args.ran.now p (c.loop-number.number + 1)) (sym w.ran-is)
      (reports_next c.args.ran.now c.loop-number.ran w.report_all.new.ran c.in-Some.dom c.loop-number.number c.in-Some.ensures.value w.in_ok-report_all.ensures.ok w.in_ok-report_all.ensures.keeps
      w.in_ok-report_all.ensures.told w.in_ok-report_all.ensures.others c.loop-number.invariant)
  | else-has_chip w ↦
      subst (λ (p : Past). ReportsBelow c.args.ran.now p (c.loop-number.number + 1)) (sym w.ran-is)
      (reports_none_there c.args.ran.now c.loop-number.ran c.args.domains.now c.in-Some.dom c.loop-number.number c.in-Some.ensures.value c.requires.domains (sym c.has_chip.ensures
      ∙ w.if-has_chip.false) c.loop-number.invariant)
]

pub returns-clause-told : goal.returns-clause-told
returns-clause-told c =
    all_reported c.args.ran.now c.loop-number.ran c.args.domains.now c.requires.domains (reports_five c.args.ran.now c.loop-number.ran c.loop-number.number (omega arith) c.loop-number.invariant)
