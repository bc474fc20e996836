-- Where a number stands among ascending ones, and what an edit there leaves.
use Rattle.std.proofs.Common.{◌≡◌, ℕ, ◌+◌, ◌<◌, ◌≤◌, ◌==◌, Bool, true, false, ◌||◌, cond, ltb, List, [], ◌∷◌, length}
use Rattle.std.proofs.Common.{get_or, count_by, Result, Ok, Err, subst, refl, sym, ap, ◌∙◌, ⊎_elim, eq-eqb, ne_eqb, lt-ltb, zero-add, arith}
use Rattle.std.specs.List.{list_any, remove, insert}
use Rattle.std.specs.List.Sorted.{IsNonDecreasing, IsBinarySearchResult}
use Rattle.std.specs.Ordering.{nat_cmp}
use Rattle.std.proofs.lemmas.List.{get_or_default}
use Rattle.std.proofs.lemmas.List.Edits.{length-remove, get_or-remove_below, get_or-remove_above}
use Rattle.std.proofs.lemmas.List.Elements.{All-from_get_or}
use Rattle.std.proofs.lemmas.List.Folds.{list_any_at, list_any_none}
use Rattle.std.proofs.lemmas.List.Sorted.{searched, IsNonDecreasingBy-insert}
use Rattle.std.proofs.lemmas.List.Sums.{sum_by-cons}
use Rattle.std.proofs.lemmas.Bool.{cases_lt}

-- an element passes the test where one at least does
pub any_counted : {X : Type 0} (p : X → Bool) (xs : List X) → list_any p xs ≡ ltb 0 (count_by p xs)
any_counted p [] = refl
any_counted p (x ∷ xs) = ap (λ b. p x || b) (any_counted p xs) ∙ by (p x) (count_by p xs) ∙ ap (ltb 0) (sym (sum_by-cons (λ y. cond (p y) 1 0) x xs))
  where
    by : (b : Bool) (n : ℕ) → (b || ltb 0 n) ≡ ltb 0 (cond b 1 0 + n)
    by true n = sym (lt-ltb 0 (1 + n) (omega arith))
    by false n = sym (ap (ltb 0) (zero-add n))

-- the place of a number, and the place where it is missing

abbrev pub IsAt : List ℕ → ℕ → ℕ → Type 0
IsAt numbers n i = (i < length numbers) × (get_or numbers i 0 ≡ n)

abbrev pub IsGap : List ℕ → ℕ → ℕ → Type 0
IsGap numbers n i = (i ≤ length numbers) × ((k : ℕ) → k < i → get_or numbers k 0 < n) × ((k : ℕ) → i ≤ k → k < length numbers → n < get_or numbers k 0)

abbrev Search : List ℕ → ℕ → Result ℕ ℕ → Type 0
Search numbers n r = IsBinarySearchResult (λ y. nat_cmp y n) numbers r

pub found : (shown numbers : List ℕ) (n i : ℕ) → shown ≡ numbers → IsNonDecreasing numbers → Search shown n (Ok i) → IsAt numbers n i
found shown numbers n i same up h = searched numbers n (Ok i) (subst (λ l. Search l n (Ok i)) same h) (λ a b le lt. up a b 0 le lt)

pub missed : (shown numbers : List ℕ) (n i : ℕ) → shown ≡ numbers → IsNonDecreasing numbers → Search shown n (Err i) → IsGap numbers n i
missed shown numbers n i same up h = searched numbers n (Err i) (subst (λ l. Search l n (Err i)) same h) (λ a b le lt. up a b 0 le lt)

pub is_there : (numbers : List ℕ) (n i : ℕ) → IsAt numbers n i → list_any (λ k. k == n) numbers ≡ true
is_there numbers n i at = list_any_at (λ k. k == n) numbers i 0 at.0 (eq-eqb (get_or numbers i 0) n at.1)

pub is_absent : (numbers : List ℕ) (n i : ℕ) → IsGap numbers n i → list_any (λ k. k == n) numbers ≡ false
is_absent numbers n i gap =
    list_any_none (λ k. k == n) numbers
    (All-from_get_or (λ x. (x == n) ≡ false) numbers 0 (λ k lt. ne_eqb (get_or numbers k 0) n (⊎_elim (λ l e. omega (arith, gap.1 k l)) (λ l e. omega (arith, gap.2 k l lt)) (cases_lt k i))))

pub inserted : (numbers : List ℕ) (n i : ℕ) → IsNonDecreasing numbers → IsGap numbers n i → IsNonDecreasing (insert numbers i n)
inserted numbers n i up gap =
    IsNonDecreasingBy-insert (λ x. x) numbers i n up gap.0
    (λ k d l. omega (arith, gap.0, gap.1 k l, get_or_default numbers k d 0 (omega (arith, gap.0))))
    (λ k d l lt. omega (arith, gap.2 k l lt, get_or_default numbers k d 0 lt))

pub removed : (numbers : List ℕ) (i : ℕ) → IsNonDecreasing numbers → i < length numbers → IsNonDecreasing (remove numbers i)
removed numbers i up lt a b d le w =
    let long = length-remove numbers i lt in
    ⊎_elim
    (λ l. ⊎_elim
    (λ m. omega (arith, get_or-remove_below numbers i d a l lt, get_or-remove_below numbers i d b m lt, up a b d le (omega arith)))
    (λ m. omega (arith, get_or-remove_below numbers i d a l lt, get_or-remove_above numbers i d b m lt, up a (b + 1) d (omega arith) (omega arith)))
    (cases_lt b i))
    (λ l. omega (arith, get_or-remove_above numbers i d a l lt, get_or-remove_above numbers i d b (omega arith) lt, up (a + 1) (b + 1) d (omega arith) (omega arith)))
    (cases_lt a i)
