use Rattle.std.proofs.Common.{◌∷◌, ◌==◌, not, rules, sym, ap, subst, ◌∙◌}
use Rattle.std.specs.List.{list_any}
use Rattle.std.specs.List.Sorted.{IsNonDecreasing, IsPermutation}
use Rattle.std.proofs.lemmas.List.Sorted.{IsPermutation-insert}
use Rattle.learn_report.proofs.Searched.{found, missed, is_there, is_absent, inserted}
use Rattle.learn_report.proofs.waiting.Waiting.put.Goals as goal

pub invariant_of-self : goal.invariant_of-self
invariant_of-self c =
    let numbers = c.self.inside.numbers.items in
    let gap = missed _ numbers c.args.number _ c.deref.ensures.value c.self.invariant.0 c.in-Err.ensures.position in
    (subst IsNonDecreasing (sym c.in-Ok-insert.ensures.items) (inserted numbers c.args.number _ c.self.invariant.0 gap), search rules)

pub returns-in-Ok-clause-value : goal.returns-in-Ok-clause-value
returns-in-Ok-clause-value c =
    let numbers = c.self.inside.numbers.items in
    let at = found _ numbers c.args.number _ c.deref.ensures.value c.self.invariant.0 c.in-Ok.ensures.position in
    ap not (sym (is_there numbers c.args.number _ at) ∙ ap (list_any (λ n. n == c.args.number)) c.self.view_is)

pub returns-in-Ok-insert-clause-value : goal.returns-in-Ok-insert-clause-value
returns-in-Ok-insert-clause-value c =
    let numbers = c.self.inside.numbers.items in
    let gap = missed _ numbers c.args.number _ c.deref.ensures.value c.self.invariant.0 c.in-Err.ensures.position in
    ap not (sym (is_absent numbers c.args.number _ gap) ∙ ap (list_any (λ n. n == c.args.number)) c.self.view_is)

pub returns-in-Ok-insert-clause-put : goal.returns-in-Ok-insert-clause-put
returns-in-Ok-insert-clause-put c =
    subst (λ old. IsPermutation (c.args.number ∷ old) c.insert.new.self.items) c.self.view_is
    (subst (IsPermutation (c.args.number ∷ c.self.inside.numbers.items)) (sym c.in-Ok-insert.ensures.items) (IsPermutation-insert c.self.inside.numbers.items c.in-Err.place c.args.number))
