-- Ascending lists of the numbers below a bound that pass a test.
use Rattle.std.proofs.Common.{◌≡◌, ℕ, zero, suc, ◌+◌, ◌<◌, ◌≤◌, Bool, true, false, not, ◌&&◌, ◌||◌, cond, List, [], ◌∷◌, Some, length, refl, sym, ap, subst, ◌∙◌, arith, inl, inr}
use Rattle.std.specs.Prelude.{◌==◌, slice_get}
use Rattle.std.specs.List.{All, filter, range_with_len}
use Rattle.std.proofs.lemmas.List.Elements.{All-filter}
use Rattle.std.proofs.lemmas.List.Sums.{length-filter, count_by-le-length}
use Rattle.std.proofs.Math.Bool.{and-true, and-false}
use Rattle.std.proofs.lemmas.Bool.Decides.{eqb_tells}
use Rattle.std.proofs.lemmas.Bool.{eq-eqb, ne_eqb, cases_Bool, cases_lt, false≢true}
use Rattle.std.proofs.lemmas.List.FromFn.{length-range_with_len, get_or-range_with_len}
use Rattle.std.proofs.lemmas.List.Kept.{IsStrictlyIncreasing-filter}
use Rattle.std.specs.List.Sorted.{IsStrictlyIncreasing}
use Rattle.port_sets.specs.Numbers.{numbers_below, has_number, IsSetBelow}
pub use Rattle.port_sets.specs.WordsOfMembers.{has-filter, has-below}

-- tests that agree from a on keep the same numbers
pub same_from : (p q : ℕ → Bool) (a n : ℕ) → ((m : ℕ) → a ≤ m → m < a + n → p m ≡ q m) → filter p (range_with_len a n) ≡ filter q (range_with_len a n)
same_from p q a zero h = refl
same_from p q a (suc n) h =
    let rest : filter p (range_with_len (a + 1) n) ≡ filter q (range_with_len (a + 1) n) = same_from p q (a + 1) n (λ m low high. h m (omega arith) (omega arith)) in
    ap (λ b. cond b (a ∷ filter p (range_with_len (a + 1) n)) (filter p (range_with_len (a + 1) n))) (h a (omega arith) (omega arith))
    ∙ ap (λ (f : List ℕ). cond (q a) (a ∷ f) f) rest

-- tests that agree below the bound keep the same numbers
pub same_below : (p q : ℕ → Bool) (most : ℕ) → ((m : ℕ) → m < most → p m ≡ q m) → numbers_below most p ≡ numbers_below most q
unfolding numbers_below
same_below p q most h = same_from p q 0 most (λ m low high. h m (omega arith))

none_over : (a n m : ℕ) → a + n ≤ m → has_number (range_with_len a n) m ≡ false
none_over a zero m high = refl
none_over a (suc n) m high = ap (λ b. b || has_number (range_with_len (a + 1) n) m) (ne_eqb m a (omega arith)) ∙ none_over (a + 1) n m (omega arith)

-- no number from the bound on is a member
pub has-above : (p : ℕ → Bool) (most m : ℕ) → most ≤ m → has_number (numbers_below most p) m ≡ false
unfolding numbers_below
has-above p most m high = has-filter p m (range_with_len 0 most) ∙ ap (λ b. p m && b) (none_over 0 most m (omega arith)) ∙ and-false (p m)

-- the numbers that pass are a set
pub IsSetBelow-numbers_below : (p : ℕ → Bool) (most : ℕ) → IsSetBelow most (numbers_below most p)
IsSetBelow-numbers_below p most = same_below p (has_number (numbers_below most p)) most (λ m low. sym (has-below p most m low))

filter_filter : (p q : ℕ → Bool) (xs : List ℕ) → filter q (filter p xs) ≡ filter (λ m. p m && q m) xs
filter_filter p q [] = refl
filter_filter p q (x ∷ xs) = step (p x) (filter_filter p q xs)
  where
    step : (b : Bool) → filter q (filter p xs) ≡ filter (λ m. p m && q m) xs
        → filter q (cond b (x ∷ filter p xs) (filter p xs)) ≡ cond (b && q x) (x ∷ filter (λ m. p m && q m) xs) (filter (λ m. p m && q m) xs)
    step true e = ap (λ (f : List ℕ). cond (q x) (x ∷ f) f) e
    step false e = e

-- the numbers that pass, as a filter of all
pub numbers_below-filter : (p : ℕ → Bool) (most : ℕ) → numbers_below most p ≡ filter p (range_with_len 0 most)
unfolding numbers_below
numbers_below-filter p most = refl

-- a filter of the numbers that pass
pub filter-numbers_below : (p q : ℕ → Bool) (most : ℕ) → filter q (numbers_below most p) ≡ numbers_below most (λ m. p m && q m)
unfolding numbers_below
filter-numbers_below p q most = filter_filter p q (range_with_len 0 most)

-- a filter of a set
pub filter-set : (most : ℕ) (xs : List ℕ) (q : ℕ → Bool) → IsSetBelow most xs → filter q xs ≡ numbers_below most (λ m. has_number xs m && q m)
filter-set most xs q h = ap (filter q) h ∙ filter-numbers_below (has_number xs) q most

none_from : (a n : ℕ) → filter (λ _. false) (range_with_len a n) ≡ []
none_from a zero = refl
none_from a (suc n) = none_from (a + 1) n

-- no number passes
pub none_below : (p : ℕ → Bool) (most : ℕ) → ((m : ℕ) → m < most → p m ≡ false) → numbers_below most p ≡ []
unfolding numbers_below
none_below p most h = same_below p (λ _. false) most h ∙ none_from 0 most

-- without the first number that passes the others are left
rest_from : (p : ℕ → Bool) (a n m : ℕ) (rest : List ℕ) → filter p (range_with_len a n) ≡ m ∷ rest → filter (λ k. p k && not (k == m)) (range_with_len a n) ≡ rest
rest_from p a zero m rest h = cc
rest_from p a (suc n) m rest h =
    let q : ℕ → Bool = λ k. p k && not (k == m) in
    let kept : List ℕ = filter p (range_with_len (a + 1) n) in
    let left : List ℕ = filter q (range_with_len (a + 1) n) in
    elim (cases_Bool (p a)) [
      | inl e ↦
          let cut : a ∷ kept ≡ m ∷ rest = sym (ap (λ b. cond b (a ∷ kept) kept) e) ∙ h in
          let here : a ≡ m = cc in
          let tail : kept ≡ rest = cc in
          ap (λ b. cond (p a && not b) (a ∷ left) left) (eq-eqb a m here)
          ∙ ap (λ b. cond b (a ∷ left) left) (and-false (p a))
          ∙ same_from q p (a + 1) n (λ k low high. ap (λ b. p k && not b) (ne_eqb k m (omega arith)) ∙ and-true (p k))
          ∙ tail
      | inr e ↦
          ap (λ b. cond (b && not (a == m)) (a ∷ left) left) e
          ∙ rest_from p (a + 1) n m rest (sym (ap (λ b. cond b (a ∷ kept) kept) e) ∙ h)
    ]

head_rest : (xs : List ℕ) (n : ℕ) → slice_get xs 0 ≡ Some n → (rest : List ℕ) × (xs ≡ n ∷ rest)
head_rest [] n h = absurd (cc)
head_rest (x ∷ rest) n h = let e : x ≡ n = cc in (rest, ap (λ y. y ∷ rest) e)

-- a set is its first member and the others
pub first-others : (most : ℕ) (xs : List ℕ) (n : ℕ) → IsSetBelow most xs → slice_get xs 0 ≡ Some n → xs ≡ n ∷ numbers_below most (λ m. has_number xs m && not (m == n))
unfolding numbers_below
first-others most xs n h e =
    let cut = head_rest xs n e in
    cut.1 ∙ ap (λ (f : List ℕ). n ∷ f) (sym (rest_from (has_number xs) 0 most n cut.0 (sym h ∙ cut.1)))

least_from : (p : ℕ → Bool) (a n m : ℕ) → a ≤ m → m < a + n → p m ≡ true → ((k : ℕ) → a ≤ k → k < m → p k ≡ false) → slice_get (filter p (range_with_len a n)) 0 ≡ Some m
least_from p a zero m low high there none = absurd (omega arith)
least_from p a (suc n) m low high there none =
    let kept : List ℕ = filter p (range_with_len (a + 1) n) in
    elim (eqb_tells a m) [
      | inl e ↦ ap (λ b. slice_get (cond b (a ∷ kept) kept) 0) (ap p e.1 ∙ there) ∙ ap Some e.1
      | inr e ↦
          ap (λ b. slice_get (cond b (a ∷ kept) kept) 0) (none a (omega arith) (omega (arith, e.1)))
          ∙ least_from p (a + 1) n m (omega (arith, e.1)) (omega arith) there (λ k above below. none k (omega arith) below)
    ]

-- the least number that passes comes first
pub first-numbers_below : (p : ℕ → Bool) (most m : ℕ) → m < most → p m ≡ true → ((k : ℕ) → k < m → p k ≡ false) → slice_get (numbers_below most p) 0 ≡ Some m
unfolding numbers_below
first-numbers_below p most m high there none = least_from p 0 most m (omega arith) (omega arith) there (λ k low below. none k below)

increasing_from : (a n : ℕ) → IsStrictlyIncreasing (range_with_len a n)
increasing_from a n k low =
    let size : length (range_with_len a n) ≡ n = length-range_with_len a n in
    omega (arith, get_or-range_with_len a n k 0 (omega arith), get_or-range_with_len a n (k + 1) 0 (omega arith))

-- the members of a set ascend
pub IsStrictlyIncreasing-set : (most : ℕ) (xs : List ℕ) → IsSetBelow most xs → IsStrictlyIncreasing xs
unfolding numbers_below
IsStrictlyIncreasing-set most xs h = rw h (IsStrictlyIncreasing-filter (has_number xs) (range_with_len 0 most) (increasing_from 0 most))

-- a set below a bound has no more members than the bound
pub length-set_le : (most : ℕ) (xs : List ℕ) → IsSetBelow most xs → length xs ≤ most
unfolding numbers_below
length-set_le most xs h =
    omega (arith, ap length h, length-filter (has_number xs) (range_with_len 0 most), count_by-le-length (has_number xs) (range_with_len 0 most), length-range_with_len 0 most)

-- each member is below the bound
pub All-set_below : (most : ℕ) (xs : List ℕ) → IsSetBelow most xs → All (λ m. m < most) xs
unfolding numbers_below
All-set_below most xs h = subst (All (λ m. m < most)) (sym h) (All-filter (has_number xs) (λ m. m < most) (range_with_len 0 most) within)
  where
    within : All (λ m. m < most) (range_with_len 0 most)
    within k d low = let size = length-range_with_len 0 most in omega (arith, get_or-range_with_len 0 most k d (omega (arith, low, size)))

-- what is in a set is below the bound
pub has-set_below : (most : ℕ) (xs : List ℕ) (n : ℕ) → IsSetBelow most xs → has_number xs n ≡ true → n < most
has-set_below most xs n h is = elim (cases_lt n most) [
  | inl low ↦ low
  | inr high ↦ absurd (false≢true (sym (has-above (has_number xs) most n high) ∙ ap (λ (ys : List ℕ). has_number ys n) (sym h) ∙ is))
]
