use Rattle.std.proofs.Common.{◌∷◌, ◌==◌, rules, true≢false, sym, ap, subst, ◌∙◌}
use Rattle.std.specs.List.{list_any}
use Rattle.std.specs.List.Sorted.{IsNonDecreasing, IsPermutation}
use Rattle.std.proofs.lemmas.List.{get_or_default}
use Rattle.std.proofs.lemmas.List.Sorted.{IsPermutation-remove}
use Rattle.learn_report.proofs.Searched.{found, missed, is_absent, removed}
use Rattle.learn_report.proofs.waiting.Waiting.take.Goals as goal

pub invariant_of-self : goal.invariant_of-self
invariant_of-self c =
    let numbers = c.self.inside.numbers.items in
    let at = found _ numbers c.args.number _ c.deref.ensures.value c.self.invariant.0 c.in-Ok.ensures.position in
    (subst IsNonDecreasing (sym c.remove.ensures.items) (removed numbers _ c.self.invariant.0 at.0), search rules)

pub unreachable-requires : goal.unreachable-requires
unreachable-requires c =
    let numbers = c.self.inside.numbers.items in
    let gap = missed _ numbers c.args.number _ c.deref.ensures.value c.self.invariant.0 c.in-Err.ensures.position in
    true≢false (sym c.requires ∙ ap (list_any (λ n. n == c.args.number)) (sym c.self.view_is) ∙ is_absent numbers c.args.number _ gap)

pub returns : goal.returns
returns c =
    let numbers = c.self.inside.numbers.items in
    let n = c.args.number in
    let at = found _ numbers n _ c.deref.ensures.value c.self.invariant.0 c.in-Ok.ensures.position in
    let moved = IsPermutation-remove numbers c.in-Ok.place n at.0 (sym at.1 ∙ get_or_default numbers c.in-Ok.place 0 n at.0) in
    subst (λ old. IsPermutation old (n ∷ c.remove.new.self.items)) c.self.view_is (subst (λ new. IsPermutation numbers (n ∷ new)) (sym c.remove.ensures.items) moved)
