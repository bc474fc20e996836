-- The first line of some bytes.
use Rattle.std.specs.Prelude.{◌≡◌, ℕ, true, List, ◌∷◌, ◌++◌}
use Rattle.std.specs.declared.option.Option.{Option}
use Rattle.std.specs.declared.option.Option.TheVariants.{None, Some}
use Rattle.br_model.specs.Theorems.WholeLines.{is_line}
use Rattle.scenario_play.specs.declared.fronts.Front.{Front}

-- the bytes have this first line, with its line feed
pub record IsFront (bytes : List ℕ) (front : Front) : Type 0 where
  pub joined : bytes ≡ front.line.now ++ 10 ∷ front.behind.now
  pub feedless : is_line front.line.now ≡ true

-- or no line feed
abbrev pub CutsFront : List ℕ → Option Front → Type 0
CutsFront bytes None = is_line bytes ≡ true
CutsFront bytes (Some front) = IsFront bytes front
