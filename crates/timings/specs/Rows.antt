-- Rows of a table that has a row only where it differs from the one before.
-- Source: this profile.
use Rattle.std.specs.Prelude.{ℕ, zero, suc, Bool, if◌then◌else◌, List, [], ◌∷◌}

-- the values of so many numbers from k on, where they differ from the value before, which was `last` ahead of them
abbrev pub new_behind : {A : Type 0} → (A → A → Bool) → (ℕ → A) → A → ℕ → ℕ → List (ℕ × A)
new_behind same f last k zero = []
new_behind same f last k (suc more) =
    if same last (f k) then new_behind same f last (suc k) more else (k, f k) ∷ new_behind same f (f k) (suc k) more

-- the value of k, and those of so many numbers behind it, where they differ from the value before
abbrev pub where_new : {A : Type 0} → (A → A → Bool) → (ℕ → A) → ℕ → ℕ → List (ℕ × A)
where_new same f k more = (k, f k) ∷ new_behind same f (f k) (suc k) more
