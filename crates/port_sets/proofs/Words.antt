-- The bits of words, and the numbers that they stand for.
use Rattle.std.proofs.Common.{◌≡◌, ◌≢◌, ℕ, ◌+◌, ◌*◌, ◌/◌, ◌%◌, ◌^◌, ◌<◌, ◌≤◌, Bool, true, false, not, ◌&&◌, ◌||◌, cond, List, []}
use Rattle.std.proofs.Common.{◌∷◌, Some, length, refl, sym, ap, ap₂, ◌∙◌, arith, get_or, set, inl, inr, bit_or, bit_and, w64, get_or-set_same, get_or-set_other, length-set}
use Rattle.std.specs.Prelude.{◌==◌, slice_get, nat_eq}
use Rattle.std.specs.Cmp.Lexicographic.{pointwise}
use Rattle.std.specs.Int.{bit_at, bit_not, trailing_zeros}
use Rattle.std.proofs.lemmas.Nat.Bits.{bit_at-lt, bit_at-zero, bit_at_and, bit_at_or, bit_at_not, bit_at_set_same, bit_at_set_other, bit_at_clear_same, bit_at_clear_other, bit_at-trailing_zeros}
use Rattle.std.proofs.Math.Bool.{and-true}
use Rattle.std.proofs.lemmas.Bool.Decides.{nat_tests, eqb_tells, same_from_decides, Decides-like, Decides-eqb}
use Rattle.std.proofs.lemmas.Slice.Eq.{slice_eq-Decides}
use Rattle.std.proofs.lemmas.List.{get_or_default, get_or_past}
use Rattle.std.proofs.lemmas.Nat.{and_le_l, or_lt}
use Rattle.std.proofs.lemmas.List.Elements.{All-set}
use Rattle.std.proofs.lemmas.Bool.{eq-eqb, ne_eqb, cases_lt}
use Rattle.lemmas.proofs.Tests.{cond-or}
use Rattle.port_sets.specs.Numbers.{numbers_below, has_number}
use Rattle.port_sets.specs.Words.{is_set, members, words_with, AreWords}
use Rattle.port_sets.specs.WordsOfMembers.{has-below, words_with-members}
use Rattle.port_sets.proofs.Numbers.{same_below, none_below, first-numbers_below, first-others, IsSetBelow-numbers_below}

-- below 64 w a member is a number whose bit is set
pub has-members : (w : ℕ) (words : List ℕ) (m : ℕ) → m < 64 * w → has_number (members w words) m ≡ is_set words m
has-members w words m low = has-below (is_set words) (64 * w) m low

not_set : (words : List ℕ) (m : ℕ) → get_or words (m / 64) 0 ≡ 0 → is_set words m ≡ false
not_set words m e = ap (λ x. bit_at x (m % 64) == 1) e ∙ ap (λ x. x == 1) (bit_at-zero (m % 64))

-- words of no bit have no member
pub no_members : (w : ℕ) (words : List ℕ) → ((j : ℕ) → j < w → get_or words j 0 ≡ 0) → members w words ≡ []
no_members w words h = none_below (is_set words) (64 * w) (λ m low. not_set words m (h (m / 64) (omega arith)))

-- a word that differs in one bit
set_word : (words : List ℕ) (n m v : ℕ) → n / 64 < length words
    → ((k : ℕ) → k < 64 → k ≢ n % 64 → bit_at v k ≡ bit_at (get_or words (n / 64) 0) k)
    → is_set (set words (n / 64) v) m ≡ cond (m == n) (bit_at v (n % 64) == 1) (is_set words m)
set_word words n m v within others =
    elim (eqb_tells (m / 64) (n / 64)) [
      | inl word ↦ elim (eqb_tells (m % 64) (n % 64)) [
        | inl bit ↦ same_word word.1 ∙ ap (λ k. bit_at v k == 1) bit.1 ∙ sym (ap (λ b. cond b (bit_at v (n % 64) == 1) (is_set words m)) (eq-eqb m n (omega (arith, word.1, bit.1))))
        | inr bit ↦
            same_word word.1
            ∙ ap (λ x. x == 1) (others (m % 64) (omega arith) bit.1)
            ∙ ap (λ j. bit_at (get_or words j 0) (m % 64) == 1) (sym word.1)
            ∙ sym (ap (λ b. cond b (bit_at v (n % 64) == 1) (is_set words m)) (ne_eqb m n (λ same. bit.1 (ap (λ x. x % 64) same))))
      ]
      | inr word ↦
          ap (λ x. bit_at x (m % 64) == 1) (get_or-set_other words (n / 64) (m / 64) v 0 word.1)
          ∙ sym (ap (λ b. cond b (bit_at v (n % 64) == 1) (is_set words m)) (ne_eqb m n (λ same. word.1 (ap (λ x. x / 64) same))))
    ]
  where
    same_word : m / 64 ≡ n / 64 → is_set (set words (n / 64) v) m ≡ (bit_at v (m % 64) == 1)
    same_word e =
        ap (λ j. bit_at (get_or (set words (n / 64) v) j 0) (m % 64) == 1) e
        ∙ ap (λ x. bit_at x (m % 64) == 1) (get_or-set_same words (n / 64) v 0 within)

and_cond : (b c : Bool) → cond b false c ≡ (c && not b)
and_cond true true = refl
and_cond true false = refl
and_cond false true = refl
and_cond false false = refl

-- the members of words with one bit more
pub members-with : (w : ℕ) (words : List ℕ) (n : ℕ) → n / 64 < length words
    → members w (set words (n / 64) (bit_or (get_or words (n / 64) 0) (1 * 2 ^ (n % 64) % 2 ^ 64)))
    ≡ numbers_below (64 * w) (λ m. (m == n) || has_number (members w words) m)
members-with w words n within =
    same_below _ _ (64 * w) (λ m low.
    set_word words n m new within (λ k below apart. bit_at_set_other w64 old (n % 64) small k apart)
    ∙ ap (λ x. cond (m == n) (x == 1) (is_set words m)) (bit_at_set_same w64 old (n % 64) small)
    ∙ cond-or (m == n) (is_set words m)
    ∙ ap (λ b. (m == n) || b) (sym (has-members w words m low)))
  where
    old : ℕ
    old = get_or words (n / 64) 0

    new : ℕ
    new = bit_or old (1 * 2 ^ (n % 64) % 2 ^ 64)

    small : n % 64 < 64
    small = omega arith

-- the members of words with one bit less
pub members-without : (w : ℕ) (words : List ℕ) (n : ℕ) → n / 64 < length words
    → members w (set words (n / 64) (bit_and (get_or words (n / 64) 0) (bit_not w64 (1 * 2 ^ (n % 64) % 2 ^ 64))))
    ≡ numbers_below (64 * w) (λ m. has_number (members w words) m && not (m == n))
members-without w words n within =
    same_below _ _ (64 * w) (λ m low.
    set_word words n m new within (λ k below apart. bit_at_clear_other w64 old (n % 64) small k below apart)
    ∙ ap (λ x. cond (m == n) (x == 1) (is_set words m)) (bit_at_clear_same w64 old (n % 64) small)
    ∙ and_cond (m == n) (is_set words m)
    ∙ ap (λ b. b && not (m == n)) (sym (has-members w words m low)))
  where
    old : ℕ
    old = get_or words (n / 64) 0

    new : ℕ
    new = bit_and old (bit_not w64 (1 * 2 ^ (n % 64) % 2 ^ 64))

    small : n % 64 < 64
    small = omega arith

-- the members of words of which one bit is set or cleared

pub members-switched_on : (w : ℕ) (words : List ℕ) (n : ℕ) → n / 64 < length words
    → members w (set words (n / 64) (bit_or (get_or words (n / 64) 0) (1 * 2 ^ (n % 64) % 2 ^ 64)))
    ≡ numbers_below (64 * w) (λ m. cond (m == n) true (has_number (members w words) m))
members-switched_on w words n within =
    members-with w words n within ∙ same_below _ _ (64 * w) (λ m low. sym (cond-or (m == n) (has_number (members w words) m)))

pub members-switched_off : (w : ℕ) (words : List ℕ) (n : ℕ) → n / 64 < length words
    → members w (set words (n / 64) (bit_and (get_or words (n / 64) 0) (bit_not w64 (1 * 2 ^ (n % 64) % 2 ^ 64))))
    ≡ numbers_below (64 * w) (λ m. cond (m == n) false (has_number (members w words) m))
members-switched_off w words n within =
    members-without w words n within ∙ same_below _ _ (64 * w) (λ m low. sym (and_cond (m == n) (has_number (members w words) m)))

-- a number from the bound on was no member
pub members-without_above : (w : ℕ) (words : List ℕ) (n : ℕ) → 64 * w ≤ n → members w words ≡ numbers_below (64 * w) (λ m. has_number (members w words) m && not (m == n))
members-without_above w words n high =
    same_below _ _ (64 * w) (λ m low.
    sym (has-members w words m low)
    ∙ sym (ap (λ b. has_number (members w words) m && not b) (ne_eqb m n (omega arith)) ∙ and-true (has_number (members w words) m)))

and_bit : (a b k : ℕ) → (bit_at (bit_and a b) k == 1) ≡ ((bit_at a k == 1) && (bit_at b k == 1))
and_bit a b k = grind (arith, nat_tests, bit_at_and a b k, bit_at-lt a k, bit_at-lt b k)

or_bit : (a b k : ℕ) → (bit_at (bit_or a b) k == 1) ≡ ((bit_at a k == 1) || (bit_at b k == 1))
or_bit a b k = grind (arith, nat_tests, bit_at_or a b k, bit_at-lt a k, bit_at-lt b k)

not_bit : (b k : ℕ) → b < 2 ^ 64 → k < 64 → (bit_at (bit_not w64 b) k == 1) ≡ not (bit_at b k == 1)
not_bit b k fits low = grind (arith, nat_tests, bit_at_not w64 b k fits low, bit_at-lt b k)

-- the members of words that were combined one by one
pub members-and : (w : ℕ) (xs ys zs : List ℕ) → ((j : ℕ) → j < w → get_or zs j 0 ≡ bit_and (get_or xs j 0) (get_or ys j 0))
    → members w zs ≡ numbers_below (64 * w) (λ m. has_number (members w xs) m && has_number (members w ys) m)
members-and w xs ys zs h =
    same_below _ _ (64 * w) (λ m low.
    ap (λ x. bit_at x (m % 64) == 1) (h (m / 64) (omega arith))
    ∙ and_bit (get_or xs (m / 64) 0) (get_or ys (m / 64) 0) (m % 64)
    ∙ ap₂ ◌&&◌ (sym (has-members w xs m low)) (sym (has-members w ys m low)))

pub members-or : (w : ℕ) (xs ys zs : List ℕ) → ((j : ℕ) → j < w → get_or zs j 0 ≡ bit_or (get_or xs j 0) (get_or ys j 0))
    → members w zs ≡ numbers_below (64 * w) (λ m. has_number (members w xs) m || has_number (members w ys) m)
members-or w xs ys zs h =
    same_below _ _ (64 * w) (λ m low.
    ap (λ x. bit_at x (m % 64) == 1) (h (m / 64) (omega arith))
    ∙ or_bit (get_or xs (m / 64) 0) (get_or ys (m / 64) 0) (m % 64)
    ∙ ap₂ ◌||◌ (sym (has-members w xs m low)) (sym (has-members w ys m low)))

pub members-minus : (w : ℕ) (xs ys zs : List ℕ) → AreWords w ys → ((j : ℕ) → j < w → get_or zs j 0 ≡ bit_and (get_or xs j 0) (bit_not w64 (get_or ys j 0)))
    → members w zs ≡ numbers_below (64 * w) (λ m. has_number (members w xs) m && not (has_number (members w ys) m))
members-minus w xs ys zs fit h =
    same_below _ _ (64 * w) (λ m low.
    ap (λ x. bit_at x (m % 64) == 1) (h (m / 64) (omega arith))
    ∙ and_bit (get_or xs (m / 64) 0) (bit_not w64 (get_or ys (m / 64) 0)) (m % 64)
    ∙ ap (λ b. (bit_at (get_or xs (m / 64) 0) (m % 64) == 1) && b) (not_bit (get_or ys (m / 64) 0) (m % 64) (fit.2 (m / 64) 0 (omega (arith, fit.0))) (omega arith))
    ∙ ap₂ (λ a b. a && not b) (sym (has-members w xs m low)) (sym (has-members w ys m low)))

-- the lowest bit of the first word that has one is the least member
pub first-members : (w : ℕ) (words : List ℕ) (i : ℕ) → i < w → ((j : ℕ) → j < i → get_or words j 0 ≡ 0) → 0 < get_or words i 0 → get_or words i 0 < 2 ^ 64
    → slice_get (members w words) 0 ≡ Some (64 * i + trailing_zeros w64 (get_or words i 0))
first-members w words i within zero_below some fits =
    let t : ℕ = trailing_zeros w64 (get_or words i 0) in
    let n : ℕ = 64 * i + t in
    let bit = bit_at-trailing_zeros w64 (get_or words i 0) some fits in
    let small : t < 64 = bit.0 in
    let place : n / 64 ≡ i = omega arith in
    let rest : n % 64 ≡ t = omega arith in
    let set_at : is_set words n ≡ true =
    ap (λ x. bit_at (get_or words x 0) (n % 64) == 1) place ∙ ap (λ x. bit_at (get_or words i 0) x == 1) rest ∙ ap (λ b. b == 1) bit.1 in
    let none : (k : ℕ) → k < n → is_set words k ≡ false = λ k below. elim (cases_lt (k / 64) i) [
      | inl lower ↦ not_set words k (zero_below (k / 64) lower)
      | inr same ↦
          let here : k / 64 ≡ i = omega arith in
          let under : k % 64 < t = omega arith in
          ap (λ x. bit_at (get_or words x 0) (k % 64) == 1) here ∙ ap (λ b. b == 1) (bit.2 (k % 64) under)
    ] in
    first-numbers_below (is_set words) (64 * w) n (omega arith) set_at none

-- a word of words fits
pub word_fits : (w : ℕ) (words : List ℕ) (j : ℕ) → AreWords w words → j < w → get_or words j 0 < 2 ^ 64
word_fits w words j h low = h.2 j 0 (omega (arith, h.0))

-- the members where the lowest bit of the first word that has one is cleared
pub rest-members : (w : ℕ) (words : List ℕ) (i : ℕ) → AreWords w words → i < w → ((j : ℕ) → j < i → get_or words j 0 ≡ 0) → 0 < get_or words i 0
    → members w words ≡ (64 * i + trailing_zeros w64 (get_or words i 0)) ∷ members w (set words i (bit_and (get_or words i 0) (bit_not w64 (1 * 2 ^ trailing_zeros w64 (get_or words i 0) % 2 ^ 64))))
rest-members w words i h within zero_below some =
    let fits : get_or words i 0 < 2 ^ 64 = word_fits w words i h within in
    let t : ℕ = trailing_zeros w64 (get_or words i 0) in
    let n : ℕ = 64 * i + t in
    let small : t < 64 = (bit_at-trailing_zeros w64 (get_or words i 0) some fits).0 in
    let place : n / 64 ≡ i = omega arith in
    let rest : n % 64 ≡ t = omega arith in
    first-others (64 * w) (members w words) n (IsSetBelow-numbers_below (is_set words) (64 * w)) (first-members w words i within zero_below some fits)
    ∙ ap (λ (ns : List ℕ). n ∷ ns) (sym (members-without w words n (omega (arith, h.0))))
    ∙ ap₂ (λ j b. n ∷ members w (set words j (bit_and (get_or words j 0) (bit_not w64 (1 * 2 ^ b % 2 ^ 64))))) place rest

-- words after a write to one of the first four
pub AreWords-set : (w : ℕ) (words : List ℕ) (i v : ℕ) → AreWords w words → i < 4 → v < 2 ^ 64 → AreWords w (set words i v)
AreWords-set w words i v h low fits = (
  length-set words i v ∙ h.0,
  λ j high. get_or-set_other words i j v 0 (λ same. absurd (omega arith)) ∙ h.1 j high,
  All-set (λ x. x < 2 ^ 64) words i v fits h.2,
)

-- words of which one that is not 0 loses some of its bits
pub AreWords-clear : (w : ℕ) (words : List ℕ) (i m : ℕ) → AreWords w words → i < w → 0 < get_or words i 0 → AreWords w (set words i (bit_and (get_or words i 0) m))
AreWords-clear w words i m h within some =
    AreWords-set w words i _ h (elim (cases_lt i 4) [ inl low ↦ low | inr high ↦ absurd (omega (arith, h.1 i high)) ]) (omega (arith, and_le_l (get_or words i 0) m, word_fits w words i h within))

-- of words that were made one by one, those from the fourth on as 0
made : (w : ℕ) (words : List ℕ) → length words ≡ w → ((j : ℕ) → j < w → get_or words j 0 < 2 ^ 64) → ((j : ℕ) → j < w → 4 ≤ j → get_or words j 0 ≡ 0) → AreWords w words
made w words sized h high =
    (sized, λ i from. elim (cases_lt i w) [ inl low ↦ high i low from | inr past ↦ get_or_past words i 0 (omega arith) ], λ k d low. rw (get_or_default words k d 0 low) (h k (omega arith)))

-- words that were combined one by one
pub AreWords-and : (w : ℕ) (xs zs : List ℕ) (f : ℕ → ℕ) → AreWords w xs → length zs ≡ w → ((j : ℕ) → j < w → get_or zs j 0 ≡ bit_and (get_or xs j 0) (f j)) → AreWords w zs
AreWords-and w xs zs f h sized done =
    made w zs sized
    (λ j low. omega (arith, done j low, and_le_l (get_or xs j 0) (f j), word_fits w xs j h low))
    (λ j low high. omega (arith, done j low, and_le_l (get_or xs j 0) (f j), h.1 j high))

pub AreWords-or : (w : ℕ) (xs ys zs : List ℕ) → AreWords w xs → AreWords w ys → length zs ≡ w → ((j : ℕ) → j < w → get_or zs j 0 ≡ bit_or (get_or xs j 0) (get_or ys j 0)) → AreWords w zs
AreWords-or w xs ys zs hx hy sized done =
    made w zs sized
    (λ j low. rw (done j low) (or_lt 64 _ _ (word_fits w xs j hx low) (word_fits w ys j hy low)))
    (λ j low high. done j low ∙ ap₂ bit_or (hx.1 j high) (hy.1 j high))

-- words are equal where their members are
pub pointwise-members : (w : ℕ) (xs ys : List ℕ) → AreWords w xs → AreWords w ys → pointwise nat_eq xs ys ≡ pointwise nat_eq (members w xs) (members w ys)
pointwise-members w xs ys hx hy =
    same_from_decides _ _ (slice_eq-Decides Decides-eqb xs ys _ refl) (Decides-like _
    (λ e. sym (words_with-members w xs hx) ∙ ap (words_with w) e ∙ words_with-members w ys hy)
    (λ e. ap (members w) e)
    (slice_eq-Decides Decides-eqb (members w xs) (members w ys) _ refl))
