-- Reports by numbers, so that they can be kept in ascending order.
use Rattle.std.specs.Prelude.{◌≡◌, ℕ, ◌+◌, ◌*◌, ◌^◌, ◌<◌, ◌==◌, List, length, count_by}
use Rattle.std.specs.List.{All}

-- the VLAN highest, then the 48 bits of the address and the 8 of the port
unfoldable pub numbered : ℕ × ℕ × ℕ → ℕ
numbered r = (r.0 * 2 ^ 48 + r.1) * 256 + r.2

-- the address has 48 bits and the port 8
abbrev pub IsRanged : ℕ × ℕ × ℕ → Type 0
IsRanged r = (r.1 < 2 ^ 48) × (r.2 < 256)

-- the numbers of the reports, each as often as its report waits
pub record IsIndex (reports : List (ℕ × ℕ × ℕ)) (numbers : List ℕ) : Type 0 where
  pub ranged : All IsRanged reports
  pub sized : length numbers ≡ length reports
  pub counted : (k : ℕ) → count_by (λ n. n == k) numbers ≡ count_by (λ r. numbered r == k) reports
