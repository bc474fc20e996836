-- What a `no` says of the frames before the one that no timing explains.
-- Source: this profile.
use Rattle.std.specs.Prelude.{◌≡◌, ℕ, true, List, ◌∷◌, ◌++◌, []}
use Rattle.std.specs.declared.option.Option.TheVariants.{None}
use Rattle.br_model.specs.Plane.World.{Stepped, first_world}
use Rattle.br_model.specs.Table.Setup.{Setup}
use Rattle.timings.specs.Explained.{Explains, Mark, Sees, Sights, Timing, observed, stands_from, timing}
use Rattle.timings.specs.Greedy.{turns_ahead}
use Rattle.timings.specs.Timings.{Enters}

-- A timing of the marks before the frame explains the frames before it and ends where the answer says; behind it no number of turns
-- explains the frame.
pub record IsRefuted (setup : Setup) (s : Sights) (marks : List Mark) (id : ℕ) (x : Stepped) : Type 0 where
  pub before : Timing
  pub port : ℕ
  pub bytes : List ℕ
  pub later : List Mark
  pub parts : marks ≡ observed before ++ Sees (Enters port bytes) ∷ later
  pub there : x ≡ timing setup before
  pub next : id ≡ x.0.next
  pub stands : stands_from (first_world setup, []) before ≡ true
  pub explains : Explains setup s id before
  pub none : turns_ahead s x (Sees (Enters port bytes)) ≡ None
