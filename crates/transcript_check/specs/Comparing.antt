-- How far a transcript is as it should be.
use Rattle.std.specs.Prelude.{◌≡◌, ℕ, Bool, true, false, List, [], ◌∷◌, ◌++◌}
use Rattle.std.specs.declared.option.Option.{Option}
use Rattle.std.specs.declared.option.Option.TheVariants.{None, Some}
use Rattle.br_model.specs.Program.Checks.{Difference, difference_from, lines_in}

-- the number of the next line of a transcript, and its bytes from there on
pub record Standing : Type 0 where
  pub line : ℕ
  pub rest : List ℕ

-- where it differs, if these lines are to come
abbrev pub differs_at : Standing → List (List ℕ) → Option Difference
differs_at s lines = difference_from s.line lines (lines_in s.rest)

abbrev pub first_of : List (List ℕ) → List ℕ
first_of [] = []
first_of (line ∷ lines) = line

-- the first line of a text, nothing where there is none
abbrev pub first_in : List ℕ → List ℕ
first_in text = first_of (lines_in text)

-- Whatever lines are to come behind these, they are compared from there on.
abbrev pub GoesOn : Standing → Standing → List (List ℕ) → Type 0
GoesOn old new lines = (more : List (List ℕ)) → differs_at old (lines ++ more) ≡ differs_at new more

-- Whatever lines are to come behind these, this is the difference.
abbrev pub Differs : Standing → List (List ℕ) → Difference → Type 0
Differs old lines d = (more : List (List ℕ)) → differs_at old (lines ++ more) ≡ Some d

abbrev pub Advances : Standing → Standing → List (List ℕ) → Bool → Type 0
Advances old new lines true = GoesOn old new lines
Advances old new lines false = new ≡ old

-- the difference at the next line, which should be this one
abbrev pub difference_at : Standing → List ℕ → Difference
difference_at s line = record { line = s.line; expected = line; found = first_in s.rest }

abbrev pub PassesLine : Standing → Standing → List ℕ → Bool → Type 0
PassesLine old new line true = GoesOn old new (line ∷ [])
PassesLine old new line false = Differs old (line ∷ []) (difference_at old line) × (new ≡ old)

abbrev pub Compares : Standing → Standing → List (List ℕ) → Option Difference → Type 0
Compares old new lines None = GoesOn old new lines
Compares old new lines (Some d) = Differs old lines d

-- nothing more is told
abbrev pub EndsThere : Standing → Option Difference → Type 0
EndsThere s answer = differs_at s [] ≡ answer
