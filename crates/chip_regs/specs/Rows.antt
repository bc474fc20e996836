-- Rows of bytes as numbers, and their fields. Bit i of a row is bit i % 8, counted from the least, of byte i / 8.
use Rattle.std.specs.Prelude.{◌≡◌, ℕ, zero, suc, ◌+◌, ◌*◌, ◌/◌, ◌%◌, ◌^◌, ◌<◌, Bool, true, false, List, [], ◌∷◌, length}
use Rattle.std.specs.List.{All}

-- the number whose bit i is bit i of the row: the first byte is the lowest
abbrev pub number : List ℕ → ℕ
number [] = 0
number (b ∷ bs) = b + 256 * number bs

-- the number in the `width` bits from `at` on, the first of them the least
unfoldable pub field : ℕ → ℕ → ℕ → ℕ
field row at width = row / 2 ^ at % 2 ^ width

-- the row with the number n in that field, and each other bit as it was
unfoldable pub with_field : ℕ → ℕ → ℕ → ℕ → ℕ
with_field row at width n = (row / 2 ^ (at + width) * 2 ^ width + n) * 2 ^ at + row % 2 ^ at

-- a bit as a number
abbrev pub bit_of : Bool → ℕ
bit_of true = 1
bit_of false = 0

-- the lowest k bytes of a number, the lowest first
abbrev pub bytes_of : ℕ → ℕ → List ℕ
bytes_of zero n = []
bytes_of (suc k) n = n % 256 ∷ bytes_of k (n / 256)

-- the bytes of a row of so many
abbrev pub AreBytes : ℕ → List ℕ → Type 0
AreBytes k bs = (length bs ≡ k) × All (λ b. b < 256) bs
