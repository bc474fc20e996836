-- A list that stands for one of so many items: those that it lacks at its end are blank.
use Rattle.std.specs.Prelude.{ℕ, zero, suc, List, [], ◌∷◌}

unfoldable pub padded : {A : Type 0} → A → ℕ → List A → List A
padded blank zero xs = []
padded blank (suc n) [] = blank ∷ padded blank n []
padded blank (suc n) (x ∷ xs) = x ∷ padded blank n xs
