-- How a run may end, by what it saw of its source and did to its sink. A source or a sink may tell its bytes or not. Of a
-- sink that doesn't, nothing is said; of a source that doesn't, that the output is that of some input.
-- Source: this profile.
use Rattle.std.specs.Prelude.{◌≡◌, ◌⊎◌, ℕ, ◌<◌, ◌≤◌, false, List, [], ◌++◌, length, take, IfSome, IsSomeAnd}
use Rattle.std.specs.declared.option.Option.{Option}
use Rattle.std.specs.Io.KnownBytes.{Appends, Consumes, append_known}
use Rattle.br_model.specs.declared.scenario.LineWhy.{LineWhy}
use Rattle.br_model.specs.Text.Scenario.{Ending, Going, Ended, Bad, opened, reads, scenario}

-- lines of some kind, by how an input of them ends
pub record Lines (End Why : Type 0) : Type 0 where
  -- how whole bytes end, and how bytes do behind which more may come
  pub whole : List ℕ → End
  pub so_far : List ℕ → End
  -- they go on; they end well; the line of this number, counted from 1, is bad for this cause
  pub going : End
  pub ended : End
  pub bad : ℕ → Why → End

-- the lines of a scenario
abbrev pub scenario_lines : Lines Ending LineWhy
scenario_lines = record {
  whole = λ bytes. (scenario bytes).ending;
  so_far = λ bytes. (reads (opened false) bytes).ending;
  going = Going;
  ended = Ended;
  bad = Bad;
}

-- what a call saw and did
pub record Call : Type 0 where
  -- the bytes that the source had left when the call began, and has left now
  pub left_before : Option (List ℕ)
  pub left_now : Option (List ℕ)
  -- the bytes that the sink had taken when the call began, and has taken now
  pub taken_before : Option (List ℕ)
  pub taken_now : Option (List ℕ)

-- the source gave just these bytes in the call
abbrev pub Read : Call → List ℕ → Type 0
Read call bytes = Consumes call.left_before call.left_now bytes

-- the sink took just these bytes in the call
abbrev pub Wrote : Call → List ℕ → Type 0
Wrote call bytes = Appends call.taken_before call.taken_now bytes

-- The lines end so, and the output is exactly this answer to their bytes.
pub record Answers {End Why : Type 0} (lines : Lines End Why) (answer : List ℕ → List ℕ) (call : Call) (ending : End) : Type 0 where
  -- the bytes that were read
  pub input : List ℕ
  pub read : Read call input
  pub ends : lines.whole input ≡ ending
  pub wrote : Wrote call (answer input)
  -- and so it would be with all that the source had left
  pub whole : IfSome call.left_before (λ bytes. (lines.whole bytes ≡ ending) × (answer bytes ≡ answer input))

-- the same of lines of which one is bad
abbrev pub AnswersBad : {End Why : Type 0} → Lines End Why → (List ℕ → List ℕ) → Call → Type 0
AnswersBad {End} {Why} lines answer call = (n : ℕ) × (why : Why) × Answers lines answer call (lines.bad n why)

-- Nothing was read, and the output is exactly this.
abbrev pub Makes : Call → List ℕ → Type 0
Makes call output = Read call [] × Wrote call output

-- The bytes hold neither a whole `end` line nor a bad line other than one that only lacks its end.
abbrev pub GoesOn : {End Why : Type 0} → Lines End Why → List ℕ → Type 0
GoesOn lines bytes = lines.so_far bytes ≡ lines.going

-- At least so many bytes were left, and the first of them hold neither a whole `end` line nor a bad line other than one that only lacks
-- its end.
abbrev pub HoldsNoEnd : {End Why : Type 0} → Lines End Why → ℕ → List ℕ → Type 0
HoldsNoEnd lines limit bytes = (limit ≤ length bytes) × GoesOn lines (take limit bytes)

-- What the source had left isn't so, if it tells it.
abbrev pub IsNotTooLong : {End Why : Type 0} → Lines End Why → ℕ → Call → Type 0
IsNotTooLong lines limit call = IfSome call.left_before (λ bytes. ¬ HoldsNoEnd lines limit bytes)

-- The run stops on its way: the bytes that were read are such that it goes on, and the output is what stands before the last line for
-- them, and then this last line.
pub record StopsAfter (OnItsWay : List ℕ → Type 0) (before : List ℕ → List ℕ) (call : Call) (last : List ℕ) : Type 0 where
  pub input : List ℕ
  pub read : Read call input
  pub going : OnItsWay input
  pub wrote : Wrote call (before input ++ last)

-- The same where fewer bytes were read than may be.
pub record StopsBelow (limit : ℕ) (OnItsWay : List ℕ → Type 0) (before : List ℕ → List ℕ) (call : Call) (last : List ℕ) : Type 0 where
  pub stops : StopsAfter OnItsWay before call last
  pub below : length stops.input < limit

-- The same where as many bytes were read as may be.
pub record StopsFull (limit : ℕ) (OnItsWay : List ℕ → Type 0) (before : List ℕ → List ℕ) (call : Call) (last : List ℕ) : Type 0 where
  pub stops : StopsAfter OnItsWay before call last
  pub full : length stops.input ≡ limit

-- The run lacks memory on its way: the output is the first parts of what stands before the last line for the bytes that were
-- read, so many of them and each of them whole, and then this last line.
pub record Lacks (parts : ℕ → List ℕ → List ℕ) (call : Call) (last : List ℕ) : Type 0 where
  pub input : List ℕ
  pub read : Read call input
  pub count : ℕ
  pub wrote : Wrote call (parts count input ++ last)

-- A write fails: the output is a front of what a run writes that ends otherwise, and not all of it.
pub record BreaksOff (Otherwise : Call → Type 0) (call : Call) : Type 0 where
  pub output : List ℕ
  pub wrote : Wrote call output
  pub missing : List ℕ
  pub some : 0 < length missing
  -- had the sink taken the missing bytes too, the run would have ended in another way
  pub otherwise : Otherwise (record call { taken_now = append_known call.taken_now missing })

-- Nothing was read, or the output begins with this.
pub record ReadsBehind (first : List ℕ) (call : Call) : Type 0 where
  pub input : List ℕ
  pub read : Read call input
  pub output : List ℕ
  pub wrote : Wrote call output
  pub behind : (input ≡ []) ⊎ ((rest : List ℕ) × (output ≡ first ++ rest))

-- Completeness: a run succeeds, but for want of memory, where its words are in the grammar, no fault came, and the source is such:

-- The lines end well, and a reader of so many bytes can know it: they hold the line `end` with its line feed, or the input has fewer.
pub record EndsWithin {End Why : Type 0} (lines : Lines End Why) (limit : ℕ) (bytes : List ℕ) : Type 0 where
  pub ended : lines.whole bytes ≡ lines.ended
  pub seen : limit ≤ length bytes → lines.so_far (take limit bytes) ≡ lines.ended

-- The source tells what it has left, and those are such lines.
abbrev pub HasLines : {End Why : Type 0} → Lines End Why → ℕ → Call → Type 0
HasLines lines limit call = IsSomeAnd call.left_before (EndsWithin lines limit)
