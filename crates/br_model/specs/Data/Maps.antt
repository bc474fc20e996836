-- A finite map is the list of its entries in the ascending order of their keys, a finite set the ascending list of
-- its members. Keys are numbers, pairs or triples, compared part by part.
use Rattle.std.specs.Prelude.{ℕ, Bool, not, List}
use Rattle.std.specs.List.{filter, list_any}
use Rattle.std.specs.declared.option.Option.{Option}
use Rattle.std.specs.declared.cmp.Ordering.{Ordering}
use Rattle.std.specs.Ordering.{nat_cmp, then_cmp, on, eq_by_cmp}
use Rattle.std.specs.FinMap.Entries as entries
use Rattle.std.specs.BTreeSet.{insert_key}

-- by the first number, and then the second
abbrev pub pair_cmp : ℕ × ℕ → ℕ × ℕ → Ordering
pair_cmp = then_cmp (on (λ k. k.0) nat_cmp) (on (λ k. k.1) nat_cmp)

module _ {K X : Type 0} (R : K → K → Ordering) where
  -- what stands at the key
  abbrev pub get : List (K × X) → K → Option X
  get m k = entries.find R k m

  -- the map with this at the key
  abbrev pub put : List (K × X) → K → X → List (K × X)
  put m k x = entries.put R k x m

  -- the map with nothing at the key
  abbrev pub without : List (K × X) → K → List (K × X)
  without m k = entries.where_key R (λ q. not (eq_by_cmp R k q)) m

  -- whether the keys ascend
  abbrev pub is_ascending : List (K × X) → Bool
  is_ascending m = entries.is_sorted R m

module _ {K : Type 0} (R : K → K → Ordering) where
  -- the set with this member
  abbrev pub joined : List K → K → List K
  joined s k = insert_key R s k

  -- the set without this member
  abbrev pub parted : List K → K → List K
  parted s k = filter (λ q. not (eq_by_cmp R k q)) s

  -- whether this is a member
  abbrev pub has : List K → K → Bool
  has s k = list_any (eq_by_cmp R k) s
