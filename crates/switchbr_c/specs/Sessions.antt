-- What a call of C has done with a session, by its status.
use Rattle.std.specs.Prelude.{◌≡◌, ℕ, ◌<◌, Bool, true, false, List, [], ◌∷◌, ◌++◌, length}
use Rattle.std.specs.declared.option.Option.{Option}
use Rattle.std.specs.declared.option.Option.TheVariants.{None, Some}
use Rattle.std.specs.declared.result.Result.{Result}
use Rattle.std.specs.declared.result.Result.TheVariants.{Ok, Err}
use Rattle.br_model.specs.Text.Scenario.{opened, reads}
use Rattle.whole_texts.specs.declared.session.Session.{Session}
use Rattle.whole_texts.specs.declared.session.SessionFault.{SessionFault}
use Rattle.whole_texts.specs.declared.session.SessionFault.TheVariants as faults
use Rattle.whole_texts.specs.Sessions.{IsAt, IsSectionWanted, IsSound, IsWanted, RefusesLine, RefusesSection, end_of, ended_of, told_so_far}
use Rattle.switchbr_c.specs.Calls.{Gave, GaveNothing, is_of}

-- The handle's session has taken these bytes and given this text.
abbrev pub HasTaken : List ℕ → List ℕ → Option Session → Type 0
HasTaken bytes given None = ⊥
HasTaken bytes given (Some x) = IsAt bytes given x

-- but for an end by a bad line
abbrev pub fine_at : Option Bool → Bool
fine_at None = true
fine_at (Some well) = well

abbrev pub is_fine : List ℕ → Bool
is_fine bytes = fine_at (ended_of (reads (opened false) bytes).ending)

-- The text is what is told of these bytes and wasn't given before.
abbrev pub IsNext : List ℕ → List ℕ → List ℕ → Type 0
IsNext bytes given text = given ++ text ≡ told_so_far bytes

-- it is given, and with it all that is told so far
pub record GaveNext (bytes given old new : List ℕ) (len : ℕ) (after : Option Session) : Type 0 where
  pub text : List ℕ
  pub next : IsNext bytes given text
  pub gave : Gave text old new len
  pub has : HasTaken bytes (given ++ text) after

-- it is more than the room, and is kept
pub record KeptNext (bytes given old new : List ℕ) (len : ℕ) (after : Option Session) : Type 0 where
  pub text : List ℕ
  pub next : IsNext bytes given text
  pub sized : len ≡ length text
  pub more : length old < len
  pub room : new ≡ old
  pub has : HasTaken bytes given after

-- What is told of the bytes that the session has taken is given to the room of the caller, which was `old` and is `new`.
pub record Gives (bytes given old new : List ℕ) (len : ℕ) (after : Option Session) (status : ℕ) : Type 0 where
  pub ok : status ≡ 0 → (is_fine bytes ≡ true) × GaveNext bytes given old new len after
  pub bad_line : status ≡ 3 → (is_fine bytes ≡ false) × GaveNext bytes given old new len after
  pub no_room : status ≡ 16 → KeptNext bytes given old new len after

-- nothing was done
abbrev pub IsUntouched : Option Session → Option Session → List ℕ → List ℕ → ℕ → Type 0
IsUntouched before after old new len = (after ≡ before) × GaveNothing old new len

-- All that is told of what was taken is given, but for what was given before.
pub record GivesKept (x : Session) (old new : List ℕ) (len : ℕ) (after : Option Session) (status : ℕ) : Type 0 where
  pub gives : (bytes given : List ℕ) → IsAt bytes given x → Gives bytes given old new len after status
  pub others : is_of (0 ∷ 3 ∷ 16 ∷ []) status ≡ true

-- A session that has refused so is put back, but after want of memory.
abbrev pub Refuses : Session → SessionFault → Option Session → ℕ → Type 0
Refuses x faults.Ended after status = (status ≡ 17) × (after ≡ Some x)
Refuses x faults.Misplaced after status = (status ≡ 2) × (after ≡ Some x)
Refuses x faults.TooLong after status = (status ≡ 7) × (after ≡ Some x)
Refuses x faults.NoMemory after status = (status ≡ 6) × (after ≡ None)

abbrev pub MayRefuse : Session → SessionFault → Type 0
MayRefuse x faults.Ended = IsSound x
MayRefuse x faults.Misplaced = IsSound x
MayRefuse x faults.TooLong = IsSound x
MayRefuse x faults.NoMemory = Unit {0}

-- It has answered so.
abbrev pub Settles : Session → Result (Unit {0}) SessionFault → List ℕ → List ℕ → ℕ → Option Session → ℕ → Type 0
Settles x (Ok done) old new len after status = GivesKept x old new len after status
Settles x (Err fault) old new len after status = Refuses x fault after status × GaveNothing old new len

abbrev pub MaySettle : Session → Result (Unit {0}) SessionFault → Type 0
MaySettle x (Ok done) = IsSound x
MaySettle x (Err fault) = MayRefuse x fault

-- So many bytes more are given to a session, which wants them or refuses them for these causes.
pub record Passes (x : Session) (more : List ℕ) (wanted : Type 0) (refuses : SessionFault → Type 0) (old new : List ℕ) (len : ℕ) (after : Option Session) (status : ℕ) : Type 0 where
  pub gives : (bytes given : List ℕ) → IsAt bytes given x → Gives (bytes ++ more) given old new len after status
  pub takes : is_of (0 ∷ 3 ∷ 16 ∷ []) status ≡ true → wanted
  pub usage : status ≡ 2 → refuses faults.Misplaced × IsUntouched (Some x) after old new len
  pub no_memory : status ≡ 6 → (after ≡ None) × GaveNothing old new len
  pub too_long : status ≡ 7 → refuses faults.TooLong × IsUntouched (Some x) after old new len
  pub closed : status ≡ 17 → refuses faults.Ended × IsUntouched (Some x) after old new len
  pub others : is_of (0 ∷ 2 ∷ 3 ∷ 6 ∷ 7 ∷ 16 ∷ 17 ∷ []) status ≡ true
  -- behind the end of the scenario
  pub ended : (well : Bool) → end_of x.awaits ≡ Some well → status ≡ 17

-- where there is no session
abbrev pub IsClosed : List ℕ → List ℕ → ℕ → Option Session → ℕ → Type 0
IsClosed old new len after status = (status ≡ 17) × IsUntouched None after old new len

abbrev pub PassesLine : Option Session → List ℕ → List ℕ → List ℕ → ℕ → Option Session → ℕ → Type 0
PassesLine None line old new len after status = IsClosed old new len after status
PassesLine (Some x) line old new len after status = Passes x (line ++ 10 ∷ []) (IsWanted x line) (RefusesLine x line) old new len after status

abbrev pub PassesSection : Option Session → List ℕ → List ℕ → List ℕ → ℕ → Option Session → ℕ → Type 0
PassesSection None section old new len after status = IsClosed old new len after status
PassesSection (Some x) section old new len after status = Passes x section (IsSectionWanted x section) (RefusesSection x section) old new len after status

-- What was kept is given.
abbrev pub GivesText : Option Session → List ℕ → List ℕ → ℕ → Option Session → ℕ → Type 0
GivesText None old new len after status = IsClosed old new len after status
GivesText (Some x) old new len after status = GivesKept x old new len after status

-- A session is opened.
pub record Opens (after : Option Session) (status : ℕ) : Type 0 where
  pub ok : status ≡ 0 → HasTaken [] [] after
  pub no_memory : status ≡ 6 → after ≡ None
  pub others : is_of (0 ∷ 6 ∷ []) status ≡ true

-- It is ended, where there was one.
abbrev pub Ends : Option Session → Option Session → ℕ → Type 0
Ends None after status = (status ≡ 17) × (after ≡ None)
Ends (Some x) after status = (status ≡ 0) × (after ≡ None)
