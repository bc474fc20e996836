-- The least of the numbers that values have, where some may have none.
use Rattle.std.specs.Prelude.{ℕ, zero, suc, min, List, [], ◌∷◌}
use Rattle.std.specs.declared.option.Option.{Option}
use Rattle.std.specs.declared.option.Option.TheVariants.{None, Some}

-- of two
abbrev pub smaller : Option ℕ → Option ℕ → Option ℕ
smaller None b = b
smaller (Some a) None = Some a
smaller (Some a) (Some b) = Some (min a b)

-- of entries
abbrev pub least : {K V : Type 0} → (V → Option ℕ) → List (K × V) → Option ℕ
least f [] = None
least f (e ∷ es) = smaller (f e.1) (least f es)

-- what a cell's value has
abbrev pub number_with : {V : Type 0} → (V → Option ℕ) → ℕ → V → Option ℕ
number_with f zero v = None
number_with f (suc k) v = f v

abbrev pub number_if : {V : Type 0} → (V → Option ℕ) → Option (ℕ × V) → Option ℕ
number_if f None = None
number_if f (Some e) = number_with f e.0 e.1

-- of cells
abbrev pub least_in : {V : Type 0} → (V → Option ℕ) → List (Option (ℕ × V)) → Option ℕ
least_in f [] = None
least_in f (c ∷ cs) = smaller (number_if f c) (least_in f cs)
