-- What `check` finds, where a transcript first differs from what is told of the scenario before it, and how a check may end.
-- Source: this profile.
use Rattle.std.specs.Prelude.{◌≡◌, ℕ, ◌+◌, ◌<◌, ◌≤◌, ◌==◌, true, if◌then◌else◌, List, [], ◌∷◌, ◌++◌, length, take, codes, IfSome, IsSomeAnd}
use Rattle.std.specs.Fmt.{decimal}
use Rattle.std.specs.Str.{bytes_eq}
use Rattle.std.specs.declared.option.Option.{Option}
use Rattle.std.specs.declared.option.Option.TheVariants.{None, Some}
use Rattle.br_model.specs.declared.scenario.LineWhy.{LineWhy}
use Rattle.br_model.specs.Program.Outcomes.{Call, Read, Wrote}
use Rattle.br_model.specs.Program.Runs.{told_by}
use Rattle.br_model.specs.Text.Scenario.{Ending, Going, Ended, Bad, behind_end, opened, reads, scenario_by}
use Rattle.br_model.specs.Text.Transcript.{bad_text}

-- The first line that differs: its number, what is told there, and what stands there; nothing where that text has ended.
pub record Difference : Type 0 where
  pub line : ℕ
  pub expected : List ℕ
  pub found : List ℕ

-- a byte more in front of the first line
abbrev pub in_first : ℕ → List (List ℕ) → List (List ℕ)
in_first byte [] = (byte ∷ []) ∷ []
in_first byte (line ∷ lines) = (byte ∷ line) ∷ lines

-- The lines of a text, without their line feeds; the last one may lack it. A line may have any length.
abbrev pub lines_in : List ℕ → List (List ℕ)
lines_in [] = []
lines_in (byte ∷ text) = if byte == 10 then [] ∷ lines_in text else in_first byte (lines_in text)

-- where the lines differ, of which the first has this number
abbrev pub difference_from : ℕ → List (List ℕ) → List (List ℕ) → Option Difference
difference_from n [] [] = None
difference_from n [] (y ∷ ys) = Some (record { line = n; expected = []; found = y })
difference_from n (x ∷ xs) [] = Some (record { line = n; expected = x; found = [] })
difference_from n (x ∷ xs) (y ∷ ys) =
    if bytes_eq x y then difference_from (n + 1) xs ys else Some (record { line = n; expected = x; found = y })

-- where the second text differs from the first
abbrev pub difference : List ℕ → List ℕ → Option Difference
difference expected found = difference_from 1 (lines_in expected) (lines_in found)

-- where a transcript differs from what is told of this scenario
abbrev pub differs : List ℕ → List ℕ → Option Difference
differs scenario transcript = difference (told_by true scenario) transcript

-- the same where the transcript stands behind the scenario's line `end`
unfoldable pub checked : List ℕ → Option Difference
checked bytes = differs bytes (behind_end true bytes)

-- the word, and the text behind it if there is any
abbrev pub with_text : List ℕ → List ℕ → List ℕ
with_text word [] = word ++ 10 ∷ []
with_text word (byte ∷ text) = word ++ (32 ∷ ((byte ∷ text) ++ 10 ∷ []))

-- the answer's lines
abbrev pub answer_text : Option Difference → List ℕ
answer_text None = codes "yes" ++ 10 ∷ []
answer_text (Some d) =
    codes "no " ++ (decimal d.line ++ (10 ∷ (with_text (codes "expected") d.expected ++ with_text (codes "found") d.found)))

-- nothing is compared where the scenario is bad
abbrev pub answer_at : Ending → Option Difference → List ℕ
answer_at Going d = []
answer_at Ended d = answer_text d
answer_at (Bad n why) d = bad_text n why

-- what `check` writes for its input
unfoldable pub check_answer : List ℕ → List ℕ
check_answer bytes = answer_at (scenario_by true bytes).ending (checked bytes)

-- How it may end, in the words of Outcomes.

abbrev pub IsNotBad : Ending → Type 0
IsNotBad Going = Unit {0}
IsNotBad Ended = Unit {0}
IsNotBad (Bad n why) = ⊥

-- The bytes hold no bad line other than one that only lacks its end: a check reads on, behind the scenario's `end` too.
abbrev pub ReadsOn : List ℕ → Type 0
ReadsOn bytes = IsNotBad (reads (opened true) bytes).ending

-- A reader of so many bytes sees that the scenario is bad.
abbrev pub SeesBad : ℕ → List ℕ → Type 0
SeesBad limit bytes = limit ≤ length bytes → ¬ ReadsOn (take limit bytes)

-- All that the source had left was read, fewer bytes than may be; the scenario in it ends well, and this was found.
pub record Finds (limit : ℕ) (call : Call) (found : Option Difference) : Type 0 where
  pub input : List ℕ
  pub read : Read call input
  pub all : IfSome call.left_before (λ bytes. bytes ≡ input)
  pub below : length input < limit
  pub ends : (scenario_by true input).ending ≡ Ended
  pub finds : checked input ≡ found
  pub wrote : Wrote call (check_answer input)

-- the transcript differs
abbrev pub FindsSome : ℕ → Call → Type 0
FindsSome limit call = (d : Difference) × Finds limit call (Some d)

-- The scenario has this bad line, and its cause stands alone. So it would be with all that the source had left, and a reader of so many
-- bytes sees it.
pub record FindsBad (limit : ℕ) (call : Call) : Type 0 where
  pub input : List ℕ
  pub read : Read call input
  pub line : ℕ
  pub why : LineWhy
  pub ends : (scenario_by true input).ending ≡ Bad line why
  pub wrote : Wrote call (check_answer input)
  pub whole : IfSome call.left_before (λ bytes. (scenario_by true bytes).ending ≡ Bad line why)
  pub seen_here : SeesBad limit input
  pub seen : IfSome call.left_before (SeesBad limit)

-- a whole input of fewer bytes, whose scenario ends well
pub record ChecksWithin (limit : ℕ) (bytes : List ℕ) : Type 0 where
  pub ended : (scenario_by true bytes).ending ≡ Ended
  pub below : length bytes < limit

-- The source tells what it has left, and that is such an input.
abbrev pub HasChecked : ℕ → Call → Type 0
HasChecked limit call = IsSomeAnd call.left_before (ChecksWithin limit)
