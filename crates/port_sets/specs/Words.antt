-- A set of numbers below 64 W, kept as the bits of W words: number n is bit n % 64 of word n / 64.
use Rattle.std.specs.Prelude.{ℕ, ◌≡◌, ◌+◌, ◌*◌, ◌/◌, ◌%◌, ◌^◌, ◌<◌, ◌≤◌, ◌==◌, suc, zero, Bool, List, cond, length, map, slice_index}
use Rattle.std.specs.List.{range_with_len, All}
use Rattle.std.specs.Int.{bit_at}
use Rattle.port_sets.specs.Numbers.{numbers_below, has_number}

-- whether the bit of n is set
abbrev pub is_set : List ℕ → ℕ → Bool
is_set words n = bit_at (slice_index words (n / 64)) (n % 64) == 1

-- the members of a set of w words
abbrev pub members : ℕ → List ℕ → List ℕ
members w words = numbers_below (64 * w) (is_set words)

-- the number whose bit k is set where k passes, of so many bits
unfoldable pub number_with : (ℕ → Bool) → ℕ → ℕ
number_with p zero = 0
number_with p (suc n) = cond (p 0) 1 0 + 2 * number_with (λ k. p (suc k)) n

-- the w words of a set with these members
abbrev pub words_with : ℕ → List ℕ → List ℕ
words_with w numbers = map (λ i. number_with (λ k. has_number numbers (i * 64 + k)) 64) (range_with_len 0 w)

-- w words of 64 bits, whose members fit 8 bits
abbrev pub AreWords : ℕ → List ℕ → Type 0
AreWords w words = (length words ≡ w) × ((i : ℕ) → 4 ≤ i → slice_index words i ≡ 0) × All (λ x. x < 2 ^ 64) words
