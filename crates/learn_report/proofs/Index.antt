-- The numbers of the reports that wait tell whether an equal one waits.
use Rattle.std.proofs.Common.{◌≡◌, ℕ, ◌==◌, Bool, true, ◌&&◌, ◌||◌, cond, ltb, List, [], ◌∷◌, ◌++◌, length-append, not, refl, sym, ap, ap₂, ◌∙◌, arith}
use Rattle.std.specs.List.{list_any, All}
use Rattle.std.specs.List.Sorted.{IsPermutation}
use Rattle.std.proofs.lemmas.Bool.Decides.{nat_tests}
use Rattle.std.proofs.lemmas.List.Elements.{All-nil, All-head, All-tail, All-push}
use Rattle.std.proofs.lemmas.List.Sorted.{length_permutation, sum_by_pushed, sum_by_popped}
use Rattle.std.proofs.lemmas.List.Sums.{sum_by-cons, sum_by_push}
use Rattle.lemmas.proofs.Numbers.{eqb-itself}
use Rattle.learn_report.specs.Index.{numbered, IsRanged, IsIndex}
use Rattle.learn_report.specs.Reports.{is_waiting}
use Rattle.learn_report.proofs.Searched.{any_counted}

abbrev Tuple : Type 0
Tuple = ℕ × ℕ × ℕ

-- 1 at one number alone
abbrev as_one : ℕ → ℕ → ℕ
as_one k n = cond (n == k) 1 0

same_number : (a b : Tuple) → IsRanged a → IsRanged b → (numbered a == numbered b) ≡ ((a.0 == b.0) && ((a.1 == b.1) && (a.2 == b.2)))
unfolding numbered
same_number a b ra rb =
    let n = a.0 in
    let m = a.1 in
    let p = a.2 in
    let n' = b.0 in
    let m' = b.1 in
    let p' = b.2 in
    grind (arith, nat_tests)

any_number : (reports : List Tuple) (x : Tuple) → All IsRanged reports → IsRanged x → list_any (λ r. numbered r == numbered x) reports ≡ is_waiting reports x
any_number [] x all ranged = refl
any_number (r ∷ rs) x all ranged = ap₂ ◌||◌ (same_number r x (All-head IsRanged r rs all) ranged) (any_number rs x (All-tail IsRanged r rs all) ranged)

-- a number is there exactly where its report waits
pub is_waiting-numbers : (reports : List Tuple) (numbers : List ℕ) (x : Tuple) → IsIndex reports numbers → IsRanged x → list_any (λ n. n == numbered x) numbers ≡ is_waiting reports x
is_waiting-numbers reports numbers x index ranged =
    any_counted (λ n. n == numbered x) numbers
    ∙ ap (ltb 0) (index.counted (numbered x))
    ∙ sym (any_counted (λ r. numbered r == numbered x) reports)
    ∙ any_number reports x index.ranged ranged

-- what a number that is put tells
pub put_tells : (reports : List Tuple) (numbers : List ℕ) (n : ℕ) (x : Tuple) (r : Bool) → IsIndex reports numbers → IsRanged x → n ≡ numbered x → r ≡ not (list_any (λ k. k == n) numbers)
    → r ≡ not (is_waiting reports x)
put_tells reports numbers n x r index ranged is e = e ∙ ap not (ap (λ m. list_any (λ k. k == m) numbers) is ∙ is_waiting-numbers reports numbers x index ranged)

pub index_nil : IsIndex [] []
index_nil = record { ranged = All-nil IsRanged; sized = refl; counted = λ k. refl }

-- one more waits
pub index_push : (reports : List Tuple) (numbers new : List ℕ) (n : ℕ) (x : Tuple) → IsIndex reports numbers → IsRanged x → n ≡ numbered x → IsPermutation (n ∷ numbers) new
    → IsIndex (reports ++ x ∷ []) new
index_push reports numbers new n x index ranged is moved = record {
  ranged = All-push IsRanged reports x index.ranged ranged;
  sized = omega (arith, length_permutation (n ∷ numbers) new moved, index.sized, length-append reports (x ∷ []));
  counted = λ k. omega (arith, sum_by_pushed (λ m. cond (m == k) 1 0) n numbers new moved, ap (as_one k) is, sum_by_push (λ r. cond (numbered r == k) 1 0) reports x, index.counted k);
}

-- the oldest leaves
pub index_pop : (reports : List Tuple) (numbers new : List ℕ) (n : ℕ) (x : Tuple) → IsIndex (x ∷ reports) numbers → n ≡ numbered x → IsPermutation numbers (n ∷ new) → IsIndex reports new
index_pop reports numbers new n x index is moved = record {
  ranged = All-tail IsRanged x reports index.ranged;
  sized = omega (arith, length_permutation numbers (n ∷ new) moved, index.sized);
  counted = λ k. omega (arith, sum_by_popped (λ m. cond (m == k) 1 0) n numbers new moved, ap (as_one k) is, sum_by-cons (λ r. cond (numbered r == k) 1 0) x reports, index.counted k);
}

-- the oldest has its number
pub front_is_there : (reports : List Tuple) (numbers : List ℕ) (n : ℕ) (x : Tuple) → IsIndex (x ∷ reports) numbers → n ≡ numbered x → list_any (λ k. k == n) numbers ≡ true
front_is_there reports numbers n x index is = ap (λ m. list_any (λ k. k == m) numbers) is ∙ is_waiting-numbers (x ∷ reports) numbers x index ranged ∙ itself
  where
    ranged : IsRanged x
    ranged = All-head IsRanged x reports index.ranged

    itself : is_waiting (x ∷ reports) x ≡ true
    itself = λ i. ((eqb-itself x.0 i) && ((eqb-itself x.1 i) && (eqb-itself x.2 i))) || is_waiting reports x
