-- Whether a number is among ascending ones.
use Rattle.std.proofs.Common.{◌≡◌, ℕ, zero, suc, ◌<◌, ◌≤◌, ◌==◌, true, false, ◌||◌, List, [], ◌∷◌, length, get_or, Ok, Err, refl, sym, ap₂, ◌∙◌, arith}
use Rattle.std.specs.Cmp.{unsigned_tied}
use Rattle.std.specs.List.{AllByRecursion, list_any}
use Rattle.std.specs.List.Sorted.{IsBinarySearchResult, IsStrictlySortedBy}
use Rattle.std.specs.Ordering.{nat_cmp}
use Rattle.std.specs.declared.cmp.Ordering.TheVariants.{Less}
use Rattle.lemmas.proofs.Orders.{lt_from_nat_cmp}
use Rattle.lemmas.proofs.Numbers.{eqb-sym}
use Rattle.br_model.specs.Data.Maps.{has}
use Rattle.learn_report.proofs.Searched.{found, is_absent, is_there, missed}

after : (x : ℕ) (xs : List ℕ) (k d : ℕ) → AllByRecursion (λ y. nat_cmp x y ≡ Less) xs → k < length xs → x < get_or xs k d
after x [] k d h l = absurd (omega (arith, l))
after x (y ∷ ys) zero d h l = lt_from_nat_cmp x y h.0
after x (y ∷ ys) (suc k) d h l = after x ys k d h.1 (omega arith)

rises : (xs : List ℕ) → IsStrictlySortedBy nat_cmp xs → (a b d : ℕ) → a ≤ b → b < length xs → get_or xs a d ≤ get_or xs b d
unfolding IsStrictlySortedBy
rises [] s a b d le lt = absurd (omega (arith, lt))
rises (x ∷ xs) s zero zero d le lt = omega arith
rises (x ∷ xs) s zero (suc b) d le lt = omega (arith, after x xs b d s.0 (omega arith))
rises (x ∷ xs) s (suc a) zero d le lt = absurd (omega arith)
rises (x ∷ xs) s (suc a) (suc b) d le lt = rises xs s.1 a b d (omega arith) (omega arith)

has_as : (xs : List ℕ) (n : ℕ) → has nat_cmp xs n ≡ list_any (λ k. k == n) xs
has_as [] n = refl
has_as (x ∷ xs) n = ap₂ ◌||◌ (unsigned_tied n x ∙ eqb-sym n x) (has_as xs n)

pub is_member : (xs : List ℕ) (n i : ℕ) → IsStrictlySortedBy nat_cmp xs → IsBinarySearchResult (λ y. nat_cmp y n) xs (Ok i) → true ≡ has nat_cmp xs n
is_member xs n i s h = sym (has_as xs n ∙ is_there xs n i (found xs xs n i refl (rises xs s) h))

pub is_none : (xs : List ℕ) (n i : ℕ) → IsStrictlySortedBy nat_cmp xs → IsBinarySearchResult (λ y. nat_cmp y n) xs (Err i) → false ≡ has nat_cmp xs n
is_none xs n i s h = sym (has_as xs n ∙ is_absent xs n i (missed xs xs n i refl (rises xs s) h))
