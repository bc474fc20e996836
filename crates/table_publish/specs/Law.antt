-- The book of all publications: its rule, and what a step that adds a batch tells.
use Rattle.std.specs.Prelude.{ℕ, ◌≡◌, ◌==◌, true, List, [], ◌∷◌, ◌++◌, length, MatchBool}
use Rattle.logbook.specs.Pages.{Cell, Step, View, Book, Named}
use Rattle.br_model.specs.declared.change.Change.{Change}
use Rattle.table_publish.specs.Object.{AllFull}

-- the first word is the number of batches. A book has two words, of which this one leaves the second at 0
pub record IsKept (cells : List Cell) (log : List (List Change)) : Type 0 where
  pub words : cells ≡ (length log, true) ∷ (0, true) ∷ []
  pub full : AllFull log

abbrev pub head_of : Book → Named
head_of b = record { tracked = true; key = 0; book = b }

-- the batch was added to all that had been seen; or the word was another
abbrev pub Adds : Step (List Change) → View (List Change) ℕ → ℕ → View (List Change) ℕ → Type 0
Adds s v found w = MatchBool (found == s.old) (w.0 ≡ v.0 ++ s.ask ∷ []) (Unit {0})
