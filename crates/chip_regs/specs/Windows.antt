-- Bytes of a row that are written at once.
use Rattle.std.specs.Prelude.{ℕ, zero, suc, ◌/◌, ◌%◌, List, [], ◌∷◌}

-- the bytes with the k lowest bytes of v from the place `first` on
abbrev pub written : List ℕ → ℕ → ℕ → ℕ → List ℕ
written [] first k v = []
written (b ∷ bs) zero zero v = b ∷ bs
written (b ∷ bs) zero (suc k) v = v % 256 ∷ written bs zero k (v / 256)
written (b ∷ bs) (suc first) k v = b ∷ written bs first k v
