-- A finite map from keys, which are not 0, to values, in cells.
use Rattle.std.specs.Prelude.{◌≡◌, ℕ, zero, suc, ◌<◌, ◌≤◌, Bool, cond, List, [], ◌∷◌, length, map, count_by}
use Rattle.std.specs.List.{filter}
use Rattle.std.specs.Ordering.{nat_cmp}
use Rattle.std.specs.FinMap.Entries.{put}
use Rattle.std.specs.declared.option.Option.{Option}
use Rattle.std.specs.declared.option.Option.TheVariants.{None, Some}
use Rattle.open_addressing.specs.Hashed.{key_in}
use Rattle.open_addressing.specs.Indexed.{named_by, IsIndexed}
use Rattle.open_addressing.specs.Spare.{AreSpare}
use Rattle.open_addressing.specs.Zipped.{key_of, value_of}
use Rattle.open_addressing.specs.Lookups.{cell_at, IsApart, is_used}

-- the entries, ascending by their keys, how many there is room for, and the cells in which they stand
pub record Table (V : Type 0) : Type 0 where
  pub entries : List (ℕ × V)
  pub room : ℕ
  pub cells : List (Option (ℕ × V))

abbrev pub with_cell : {V : Type 0} → ℕ → V → List (ℕ × V) → List (ℕ × V)
with_cell zero v es = es
with_cell (suc k) v es = put nat_cmp (suc k) v es

-- the entries that cells hold, ascending by their keys
abbrev pub entries_of : {V : Type 0} → List (Option (ℕ × V)) → List (ℕ × V)
entries_of [] = []
entries_of (None ∷ cs) = entries_of cs
entries_of (Some e ∷ cs) = with_cell e.0 e.1 (entries_of cs)

-- the keys whose values pass, ascending
abbrev pub keys_where : {V : Type 0} → (V → Bool) → List (ℕ × V) → List ℕ
keys_where p es = map (λ e. e.0) (filter (λ e. p e.1) es)

-- the key of a cell, if its value passes
abbrev pub key_with : {V : Type 0} → (V → Bool) → ℕ → V → Option ℕ
key_with p zero v = None
key_with p (suc k) v = cond (p v) (Some (suc k)) None

abbrev pub key_if : {V : Type 0} → (V → Bool) → Option (ℕ × V) → Option ℕ
key_if p None = None
key_if p (Some e) = key_with p e.0 e.1

abbrev pub in_cell : {V : Type 0} → Option (Option (ℕ × V)) → Option V
in_cell None = None
in_cell (Some c) = value_of c

-- the value in the first cell with a key
abbrev pub value_at : {V : Type 0} → List (Option (ℕ × V)) → ℕ → Option V
value_at cells q = in_cell (cell_at key_of cells q)

-- the cell is there, and holds the key
abbrev pub Holds : {V : Type 0} → List (Option (ℕ × V)) → ℕ → ℕ → Type 0
Holds cells i k = (i < length cells) × (key_in key_of None cells i ≡ k)

-- cells in which no key stands twice, and so many are used
pub record AreCells {V : Type 0} (used room : ℕ) (cells : List (Option (ℕ × V))) : Type 0 where
  pub apart : IsApart key_of cells
  pub counted : count_by (is_used key_of) cells ≡ used
  pub within : used ≤ room
  pub sized : room ≤ length cells

-- the cells, where their keys stand, and which of them are free
pub record IsSound {V : Type 0} (hash : ℕ → ℕ) (bits : ℕ) (slots rest : List ℕ) (fresh : ℕ) (free : List ℕ) (used room : ℕ) (cs : List (Option (ℕ × V))) : Type 0 where
  pub cells : AreCells used room cs
  pub index : IsIndexed hash bits (key_in key_of None cs) slots rest
  pub named : named_by slots rest ≡ used
  pub spare : AreSpare (key_in key_of None cs) used room fresh free
