use Rattle.std.proofs.Common.{rules, subst}
use Rattle.learn_report.specs.Index.{IsIndex}
use Rattle.learn_report.proofs.Index.{front_is_there, index_pop}
use Rattle.learn_report.proofs.reports.Reports.next.Goals as goal

pub take-requires : goal.take-requires
take-requires c =
    let index = subst (λ reports. IsIndex reports c.self.inside.waiting) c.in_ok-report.ensures.items c.self.invariant.1 in
    front_is_there c.pop_front.new.self.items c.self.inside.waiting c.number_of.result c.in_ok-report.report index c.number_of.ensures.value

pub invariant_of-self-2 : goal.invariant_of-self-2
invariant_of-self-2 c =
    let index = subst (λ reports. IsIndex reports c.self.inside.waiting) c.in_ok-report.ensures.items c.self.invariant.1 in (
      search rules,
      index_pop c.pop_front.new.self.items c.self.inside.waiting c.take.new.self c.number_of.result c.in_ok-report.report index c.number_of.ensures.value c.take.ensures,
    )
