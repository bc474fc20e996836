-- The moment before which nothing ends.
-- Source: this profile.
use Rattle.std.specs.Prelude.{ℕ, ◌^◌, ◌-◌, min, List, [], ◌∷◌}
use Rattle.std.specs.Option.{unwrap_or}
use Rattle.std.specs.declared.option.Option.{Option}
use Rattle.br_model.specs.Control.Ends.{Ends}

-- the last moment that there can be
abbrev pub last_moment : ℕ
last_moment = 2 ^ 64 - 1

-- what has no end ends no sooner than any
abbrev pub moment_of : Option ℕ → ℕ
moment_of end = unwrap_or end last_moment

module _ {K X : Type 0} (moment : X → ℕ) where
  -- the least of these moments; where there is none, the last that there can be
  abbrev pub soonest : List (K × X) → ℕ
  soonest [] = last_moment
  soonest (x ∷ xs) = min (moment x.1) (soonest xs)

abbrev pub soonest_member : {K : Type 0} → List (K × Option ℕ) → ℕ
soonest_member m = soonest moment_of m

abbrev pub soonest_moment : {K : Type 0} → List (K × ℕ) → ℕ
soonest_moment m = soonest (λ end. end) m

-- when the first of all ends
abbrev pub first_end : Ends → ℕ
first_end e = min (soonest_member e.groups) (min (soonest_moment e.routers) (soonest_moment e.queriers))
