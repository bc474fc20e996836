-- What a call of C has done when it answers, by its status.
use Rattle.std.specs.Prelude.{◌≡◌, ℕ, ◌<◌, ◌≤◌, ◌==◌, ◌⊎◌, Bool, true, false, List, [], ◌∷◌, ◌++◌, drop, length, IsSomeAnd}
use Rattle.std.specs.List.{list_any}
use Rattle.std.specs.declared.option.Option.TheVariants.{None}
use Rattle.br_model.specs.Program.Checks.{differs}
use Rattle.br_model.specs.Table.Limits.{most_bytes}
use Rattle.br_model.specs.Text.Scenario.{Ending, Going, Ended, Bad, scenario_by}

abbrev pub is_of : List ℕ → ℕ → Bool
is_of statuses status = list_any (λ s. s == status) statuses

-- the first `len` bytes of the room are the text, the others are as before
abbrev pub Gave : List ℕ → List ℕ → List ℕ → ℕ → Type 0
Gave text old new len = (len ≡ length text) × (new ≡ text ++ drop len old)

-- the room is as before, and no length is told
abbrev pub GaveNothing : List ℕ → List ℕ → ℕ → Type 0
GaveNothing old new len = (len ≡ 0) × (new ≡ old)

-- The text is given to the room of the caller, which was `old` and is `new`; `well` says whether what was read ends by its line `end`. What is
-- read, or asked for, has this size.
pub record Tells (well : Bool) (text : List ℕ) (size most : ℕ) (old new : List ℕ) (len status : ℕ) : Type 0 where
  pub ok : status ≡ 0 → (well ≡ true) × Gave text old new len
  pub bad_line : status ≡ 3 → (well ≡ false) × Gave text old new len
  pub no_memory : status ≡ 6 → GaveNothing old new len
  pub too_long : status ≡ 7 → (most < size) × GaveNothing old new len
  pub no_room : status ≡ 16 → (len ≡ length text) × (length old < len) × (new ≡ old)
  pub others : is_of (0 ∷ 3 ∷ 6 ∷ 7 ∷ 16 ∷ []) status ≡ true
  -- nothing is read then
  pub refuses : most < size → status ≡ 7

-- the bad line has this number
abbrev pub IsBadAt : Ending → ℕ → Type 0
IsBadAt Going line = ⊥
IsBadAt Ended line = ⊥
IsBadAt (Bad n why) line = n ≡ line

-- the scenario may have so many bytes, the transcript fewer
abbrev pub IsTooLong : List ℕ → List ℕ → Type 0
IsTooLong bytes transcript = (most_bytes < length bytes) ⊎ (most_bytes ≤ length transcript)

-- A transcript is compared with what is told of a scenario, and a line is told, or 0.
pub record Checks (bytes transcript : List ℕ) (line status : ℕ) : Type 0 where
  pub ok : status ≡ 0 → ((scenario_by true bytes).ending ≡ Ended) × (differs bytes transcript ≡ None) × (line ≡ 0)
  pub other : status ≡ 1 → ((scenario_by true bytes).ending ≡ Ended) × IsSomeAnd (differs bytes transcript) (λ d. d.line ≡ line)
  pub bad_line : status ≡ 3 → IsBadAt (scenario_by true bytes).ending line
  pub no_memory : status ≡ 6 → line ≡ 0
  pub too_long : status ≡ 7 → IsTooLong bytes transcript × (line ≡ 0)
  pub others : is_of (0 ∷ 1 ∷ 3 ∷ 6 ∷ 7 ∷ []) status ≡ true
  -- nothing is read then
  pub refuses : IsTooLong bytes transcript → status ≡ 7
