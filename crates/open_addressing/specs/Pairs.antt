-- Pairs of numbers as single numbers of the same order, the first above the 48 bits of the second.
use Rattle.std.specs.Prelude.{ℕ, ◌+◌, ◌*◌, ◌/◌, ◌%◌, ◌^◌, not, List, map}
use Rattle.std.specs.declared.option.Option.{Option}
use Rattle.std.specs.declared.cmp.Ordering.{Ordering}
use Rattle.std.specs.Ordering.{nat_cmp, then_cmp, on, eq_by_cmp}
use Rattle.std.specs.FinMap.Entries as entries

abbrev pub Pair : Type 0
Pair = ℕ × ℕ

-- by the first number, and then the second
abbrev pub pair_cmp : Pair → Pair → Ordering
pair_cmp = then_cmp (on (λ k. k.0) nat_cmp) (on (λ k. k.1) nat_cmp)

unfoldable pub packed : Pair → ℕ
packed k = k.0 * 2 ^ 48 + k.1

unfoldable pub unpacked : ℕ → Pair
unpacked n = (n / 2 ^ 48, n % 2 ^ 48)

module _ {V : Type 0} where
  -- the entries by pair
  abbrev pub by_pair : List (ℕ × V) → List (Pair × V)
  by_pair es = map (λ e. (unpacked e.0, e.1)) es

  -- what stands at the pair, the entries with this there, and with nothing there

  abbrev pub at_pair : List (Pair × V) → Pair → Option V
  at_pair es k = entries.find pair_cmp k es

  abbrev pub put_pair : List (Pair × V) → Pair → V → List (Pair × V)
  put_pair es k x = entries.put pair_cmp k x es

  abbrev pub without_pair : List (Pair × V) → Pair → List (Pair × V)
  without_pair es k = entries.where_key pair_cmp (λ q. not (eq_by_cmp pair_cmp k q)) es
