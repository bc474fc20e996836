use Rattle.std.proofs.Common.{◌≡◌, ℕ, ◌-◌, ◌+◌, ◌++◌, ◌<◌, List, length, vec_len, get_or, take, ap, arith, sym, subst, ◌∙◌}
use Rattle.std.specs.Option.{option_to_list}
use Rattle.std.proofs.lemmas.List.{append-nil}
use Rattle.std.proofs.lemmas.Option.{same_Some}
use Rattle.open_addressing.specs.Spare.{Uses}
use Rattle.open_addressing.proofs.FreeCells.{uses_left, uses_fresh}
use Rattle.open_addressing.proofs.spare.Spare.take.Goals as goal

pub returns-in-Some-clause-uses : goal.returns-in-Some-clause-uses
returns-in-Some-clause-uses c at used room x roomy =
    let free = c.args.self.now.free.items in
    let long : vec_len c.args.self.now.free ≡ length free = c.args.self.now.free.ok.0 in
    let some : 0 < length free = omega (arith, c.in-Some.ensures.cases) in
    let same : c.from.result ≡ c.in-Some.cell = omega arith in
    let is = same ∙ same_Some _ _ (sym c.in-Some.is ∙ c.pop.ensures.value 0 (omega arith)) ∙ ap (λ n. get_or free (n - 1) 0) long in
    let left = c.pop.ensures.rest ∙ ap (λ n. take (n - 1) free) long in
    subst (λ (ns : List ℕ). Uses at used room c.from.result c.args.self.now.fresh ns) (sym left) (uses_left at used room c.args.self.now.fresh free x c.from.result some is)

pub returns-in-None-clause-uses : goal.returns-in-None-clause-uses
returns-in-None-clause-uses c at used room x roomy =
    let free = c.args.self.now.free.items in
    let none : length free ≡ 0 = omega (arith, c.in-None.ensures.cases.0, c.args.self.now.free.ok.0) in
    let same : free ≡ c.pop.new.self.items = c.pop.ensures.items ∙ ap (λ o. c.pop.new.self.items ++ option_to_list o) c.in-None.is ∙ append-nil _ in
    subst (λ (ns : List ℕ). Uses at used room c.args.self.now.fresh (c.args.self.now.fresh + 1) ns) same (uses_fresh at used room c.args.self.now.fresh free x none roomy)
