use Rattle.std.proofs.Common.{sym, ap, subst, ◌∙◌}
use Rattle.br_model.specs.Table.Setup.{Setup}
use Rattle.plane_record.specs.Pasts.{Past}
use Rattle.live_thread.specs.Draining.{Drained}
use Rattle.live_thread.proofs.Drains.{drained_now, drains_both, drains_setup, idle_kept}
use Rattle.live_thread.proofs.drain.drain.Goals as goal

pub report_chips-requires : goal.report_chips-requires
report_chips-requires g c =
    record { domains = ap (λ (s : Setup). s.domains) (drains_setup c.args.ran.now c.serve_all.new.ran c.in_ok-serve_all.ensures.ok) ∙ c.requires.domains }

pub turn_chips-requires : goal.turn_chips-requires
turn_chips-requires g c = record {
  domains = ap (λ (s : Setup). s.domains)
      (drains_setup c.args.ran.now c.report_chips.new.ran (drains_both c.args.ran.now c.serve_all.new.ran c.report_chips.new.ran c.in_ok-serve_all.ensures.ok c.in_ok-report_chips.ensures.ok))
      ∙ c.requires.domains;
}

pub returns-clause-ok : goal.returns-clause-ok
returns-clause-ok g c =
    let start = c.args.ran.now in
    let served = c.serve_all.new.ran in
    let told = c.report_chips.new.ran in
    let turned = c.turn_chips.new.ran in
    let one = c.in_ok-serve_all.ensures in
    let two = c.in_ok-report_chips.ensures in
    let three = c.in_ok-turn_chips.ensures in
    subst (λ (p : Past). Drained start p) (sym c.in_ok-publish.ensures.ok)
    (drained_now start turned (drains_both start told turned (drains_both start served told one.ok two.ok) three.ok) (idle_kept told turned three.keeps (idle_kept served told two.keeps one.idle))
    (λ d. three.told d (two.told d)) three.turned)
