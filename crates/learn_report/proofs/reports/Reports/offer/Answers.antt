use Rattle.std.proofs.Common.{rules, ℕ, sym, ap, subst}
use Rattle.learn_report.specs.Index.{IsIndex}
use Rattle.learn_report.specs.Reports.{Reported}
use Rattle.learn_report.proofs.Index.{put_tells, index_push}
use Rattle.learn_report.proofs.reports.Reports.offer.Goals as goal

pub invariant_of-self-2 : goal.invariant_of-self-2
invariant_of-self-2 c =
    let x : ℕ × ℕ × ℕ = (c.args.v, c.args.m, c.args.p) in
    let index = index_push c.self.inside.ring.items c.self.inside.waiting c.put.new.self c.number_of.result x c.self.invariant.1 c.number_of.ensures.ranged c.number_of.ensures.value
    c.if-not-put.ensures.put in
    (search rules, subst (λ reports. IsIndex reports c.put.new.self) (sym c.push_back_reserved.ensures.items) index)

pub returns-then-not-put-clause-value : goal.returns-then-not-put-clause-value
returns-then-not-put-clause-value c =
    let x : ℕ × ℕ × ℕ = (c.args.v, c.args.m, c.args.p) in
    let told = put_tells c.self.inside.ring.items c.self.inside.waiting c.number_of.result x c.put.result c.self.invariant.1 c.number_of.ensures.ranged c.number_of.ensures.value c.put.ensures.value in
    search (rules, told, ap (λ (r : Reported). r.reports) c.self.view_is)

pub returns-clause-value : goal.returns-clause-value
returns-clause-value c =
    let x : ℕ × ℕ × ℕ = (c.args.v, c.args.m, c.args.p) in
    let told = put_tells c.self.inside.ring.items c.self.inside.waiting c.number_of.result x c.put.result c.self.invariant.1 c.number_of.ensures.ranged c.number_of.ensures.value c.put.ensures.value in
    search (rules, told, ap (λ (r : Reported). r.reports) c.self.view_is)
