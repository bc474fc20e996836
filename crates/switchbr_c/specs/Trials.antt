-- What a call of C has done that tries a line, by its status.
use Rattle.std.specs.Prelude.{◌≡◌, ℕ, ◌<◌, true, false, List, [], ◌∷◌, length}
use Rattle.std.specs.declared.option.Option.{Option}
use Rattle.std.specs.declared.option.Option.TheVariants.{None, Some}
use Rattle.br_model.specs.Program.Runs.{bad_alone}
use Rattle.br_model.specs.Text.Scenario.{Ending}
use Rattle.whole_texts.specs.declared.session.Session.{Session}
use Rattle.whole_texts.specs.declared.session.SessionFault.{SessionFault}
use Rattle.whole_texts.specs.declared.session.SessionFault.TheVariants as faults
use Rattle.whole_texts.specs.Sessions.{IsAt, IsWanted, RefusesLine}
use Rattle.whole_texts.specs.Trials.{ending_with, is_fine}
use Rattle.switchbr_c.specs.Calls.{Gave, GaveNothing, is_of}
use Rattle.switchbr_c.specs.Sessions.{IsClosed}

abbrev pub status_of : SessionFault → ℕ
status_of faults.Ended = 17
status_of faults.Misplaced = 2
status_of faults.TooLong = 7
status_of faults.NoMemory = 6

-- The text is the last line of a scenario that ends so by a bad line, and nothing of another.
pub record TellsEnd (ending : Ending) (old new : List ℕ) (len status : ℕ) : Type 0 where
  pub ok : status ≡ 0 → (is_fine ending ≡ true) × Gave (bad_alone ending) old new len
  pub bad_line : status ≡ 3 → (is_fine ending ≡ false) × Gave (bad_alone ending) old new len
  pub no_room : status ≡ 16 → (len ≡ length (bad_alone ending)) × (length old < len) × (new ≡ old)

-- The line was tried, and the session is as before.
pub record Tried (x : Session) (line old new : List ℕ) (len : ℕ) (after : Option Session) (status : ℕ) : Type 0 where
  pub same : after ≡ Some x
  pub tells : (bytes given : List ℕ) → IsAt bytes given x → TellsEnd (ending_with bytes line) old new len status
  pub wants : is_of (0 ∷ 3 ∷ 16 ∷ []) status ≡ true → IsWanted x line
  pub usage : status ≡ 2 → RefusesLine x line faults.Misplaced × GaveNothing old new len
  pub no_memory : status ≡ 6 → GaveNothing old new len
  pub too_long : status ≡ 7 → RefusesLine x line faults.TooLong × GaveNothing old new len
  pub closed : status ≡ 17 → RefusesLine x line faults.Ended × GaveNothing old new len
  pub others : is_of (0 ∷ 2 ∷ 3 ∷ 6 ∷ 7 ∷ 16 ∷ 17 ∷ []) status ≡ true

abbrev pub TriesLine : Option Session → List ℕ → List ℕ → List ℕ → ℕ → Option Session → ℕ → Type 0
TriesLine None line old new len after status = IsClosed old new len after status
TriesLine (Some x) line old new len after status = Tried x line old new len after status
