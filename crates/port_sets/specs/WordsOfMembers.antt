-- The members of a set give its words back.
use Rattle.std.proofs.Common.{◌≡◌, ℕ, zero, suc, ◌+◌, ◌*◌, ◌/◌, ◌%◌, ◌^◌, ◌<◌, Bool, ◌&&◌, cond, List, length, refl, sym, ap, ap₂, ◌∙◌, subst, get_or}
use Rattle.std.specs.Prelude.{◌==◌}
use Rattle.std.specs.List.{filter, range_with_len}
use Rattle.std.specs.Int.{bit_at}
use Rattle.std.proofs.Math.Bool.{and-true}
use Rattle.std.proofs.Math.Nat.{zero-add, le_of_suc-le-suc, not-suc-le-zero, suc-le-suc_iff, zero-lt-suc, mod-add-div, mod-lt, div-lt_iff_lt-mul, pow-suc}
use Rattle.std.proofs.lemmas.Nat.{mul-add-lt, div-mul-add, mod-mul-add}
use Rattle.std.proofs.lemmas.Nat.Bits.{bit_at_lowest, bit_at-suc}
use Rattle.std.proofs.lemmas.Bool.{eqb-true, eq-eqb}
use Rattle.std.proofs.lemmas.List.{same_lists, get_or_default}
use Rattle.std.proofs.lemmas.List.Folds.{list_any-from_Any}
use Rattle.std.proofs.lemmas.List.FromFn.{length-range_with_len, get_or-range_with_len, get_or-map-range_with_len, length-map-range_with_len}
use Rattle.std.proofs.lemmas.Map.Views.{any-filter_same}
use Rattle.port_sets.specs.Numbers.{numbers_below, has_number}
use Rattle.port_sets.specs.Words.{is_set, members, number_with, words_with, AreWords}

-- a number is in a filter where it passes and is in the list
pub has-filter : (p : ℕ → Bool) (m : ℕ) (xs : List ℕ) → has_number (filter p xs) m ≡ (p m && has_number xs m)
has-filter p m xs = any-filter_same (λ k. m == k) p (p m) (λ k same. ap p (sym (eqb-true m k same))) xs

-- a number below the bound is a member where it passes
pub has-below : (p : ℕ → Bool) (most m : ℕ) → m < most → has_number (numbers_below most p) m ≡ p m
unfolding numbers_below
has-below p most m low =
    let within : m < length (range_with_len 0 most) = subst (λ n. m < n) (sym (length-range_with_len 0 most)) low in
    let at : get_or (range_with_len 0 most) m m ≡ m = get_or-range_with_len 0 most m m low ∙ zero-add m in
    has-filter p m (range_with_len 0 most)
    ∙ ap (λ b. p m && b) (list_any-from_Any (λ k. m == k) (range_with_len 0 most) (m, m, within, at, eq-eqb m m refl))
    ∙ and-true (p m)

lowest : (b : Bool) (r : ℕ) → r < 2 → b ≡ (r == 1) → cond b 1 0 ≡ r
lowest b zero small h = ap (λ c. cond c 1 0) h
lowest b (suc zero) small h = ap (λ c. cond c 1 0) h
lowest b (suc (suc r)) small h = absurd (not-suc-le-zero (le_of_suc-le-suc (le_of_suc-le-suc small)))

-- a number is told by its bits
number_with-bits : (p : ℕ → Bool) (n v : ℕ) → v < 2 ^ n → ((k : ℕ) → k < n → p k ≡ (bit_at v k == 1)) → number_with p n ≡ v
unfolding number_with
number_with-bits p zero zero fits h = refl
number_with-bits p zero (suc v) fits h = absurd (not-suc-le-zero (le_of_suc-le-suc fits))
number_with-bits p (suc n) v fits h =
    ap₂ (λ a b. a + 2 * b)
    (lowest (p 0) (v % 2) (mod-lt v (zero-lt-suc 1)) (h 0 (zero-lt-suc n) ∙ ap (λ x. x == 1) (bit_at_lowest v)))
    (number_with-bits (λ k. p (suc k)) n (v / 2) ((div-lt_iff_lt-mul (zero-lt-suc 1)).1 (subst (λ x. v < x) (pow-suc 2 n) fits))
    (λ k low. h (suc k) (suc-le-suc_iff.1 low) ∙ ap (λ x. x == 1) (bit_at-suc v k)))
    ∙ mod-add-div v 2

-- the words of the members
pub words_with-members : (w : ℕ) (words : List ℕ) → AreWords w words → words_with w (members w words) ≡ words
words_with-members w words h = same_lists _ _ (sized ∙ sym h.0) (λ i d low. word i d (subst (λ n. i < n) sized low))
  where
    sized : length (words_with w (members w words)) ≡ w
    sized = length-map-range_with_len (λ i. number_with (λ k. has_number (members w words) (i * 64 + k)) 64) 0 w

    bit : (i d k : ℕ) → i < w → k < 64 → has_number (members w words) (i * 64 + k) ≡ (bit_at (get_or words i d) k == 1)
    bit i d k low below =
        has-below (is_set words) (64 * w) (i * 64 + k) (mul-add-lt i 64 k w low below)
        ∙ ap₂ (λ j b. bit_at (get_or words j 0) b == 1) (div-mul-add i 64 k below) (mod-mul-add i 64 k below)
        ∙ ap (λ x. bit_at x k == 1) (get_or_default words i 0 d (subst (λ n. i < n) (sym h.0) low))

    word : (i d : ℕ) → i < w → get_or (words_with w (members w words)) i d ≡ get_or words i d
    word i d low =
        get_or-map-range_with_len (λ j. number_with (λ k. has_number (members w words) (j * 64 + k)) 64) 0 w i i d low (zero-add i)
        ∙ number_with-bits (λ k. has_number (members w words) (i * 64 + k)) 64 (get_or words i d) (h.2 i d (subst (λ n. i < n) (sym h.0) low)) (λ k below. bit i d k low below)
