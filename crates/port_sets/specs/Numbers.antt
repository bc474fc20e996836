-- Lists of numbers in ascending order, told by a test.
use Rattle.std.specs.Prelude.{ℕ, ◌≡◌, ◌==◌, Bool, List}
use Rattle.std.specs.List.{filter, list_any, range_with_len}

-- the numbers below so many that pass
unfoldable pub numbers_below : ℕ → (ℕ → Bool) → List ℕ
numbers_below most p = filter p (range_with_len 0 most)

-- whether the number is in the list
abbrev pub has_number : List ℕ → ℕ → Bool
has_number numbers n = list_any (λ m. n == m) numbers

-- the list has each of its numbers once, ascending, and all are below so many
abbrev pub IsSetBelow : ℕ → List ℕ → Type 0
IsSetBelow most numbers = numbers ≡ numbers_below most (has_number numbers)
