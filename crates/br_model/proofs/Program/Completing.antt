-- A scenario that ends well within so many bytes is neither bad nor too long.
use Rattle.std.proofs.Common.{◌≡◌, ℕ, ◌≤◌, Bool, true, false, true≢false, List, ◌++◌, length, take, Option, None, Some, IfSome, IsSomeAnd, sym, ◌∙◌, ap, arith, length-append}
use Rattle.std.proofs.Math.Seq.{take-append_seam}
use Rattle.std.specs.Io.KnownBytes.{Consumes}
use Rattle.br_model.specs.declared.scenario.LineWhy.{LineWhy}
use Rattle.br_model.specs.Program.Checks.{ChecksWithin, FindsBad, HasChecked, ReadsOn}
use Rattle.br_model.specs.Program.Outcomes.{Call, Lines, AnswersBad, StopsFull, GoesOn, EndsWithin, HasLines, scenario_lines}
use Rattle.br_model.specs.Text.Scenario.{Ending, Going, Ended, Bad, scenario_by}

-- to end well is neither to have a bad line nor to go on
pub record AreApart {End Why : Type 0} (lines : Lines End Why) : Type 0 where
  pub bad : (n : ℕ) (why : Why) → lines.ended ≡ lines.bad n why → ⊥
  pub going : lines.ended ≡ lines.going → ⊥

module _ {End Why : Type 0} (lines : Lines End Why) (apart : AreApart lines) where
  -- what the source had left isn't bad
  not_bad : (answer : List ℕ → List ℕ) (input : List ℕ) (n : ℕ) (why : Why) (limit : ℕ) (left : Option (List ℕ)) → IsSomeAnd left (EndsWithin lines limit)
      → IfSome left (λ bytes. (lines.whole bytes ≡ lines.bad n why) × (answer bytes ≡ answer input)) → ⊥
  not_bad answer input n why limit None e h = e
  not_bad answer input n why limit (Some bytes) e h = apart.bad n why (sym e.ended ∙ h.0)

  pub never_bad : (answer : List ℕ → List ℕ) (call : Call) (limit : ℕ) → HasLines lines limit call → AnswersBad lines answer call → ⊥
  never_bad answer call limit e a = not_bad answer a.2.input a.0 a.1 limit call.left_before e a.2.whole

  -- nor do as many bytes as may be read go on
  not_going : (limit : ℕ) (bytes input rest : List ℕ) → bytes ≡ input ++ rest → length input ≡ limit → EndsWithin lines limit bytes → GoesOn lines input → ⊥
  not_going limit bytes input rest is full e going =
      let fits : limit ≤ length bytes = omega (arith, full, ap length is, length-append input rest) in
      let first : take limit bytes ≡ input = ap (λ k. take k bytes) (sym full) ∙ ap (take (length input)) is ∙ take-append_seam input rest in
      apart.going (sym (e.seen fits) ∙ ap (λ (b : List ℕ). lines.so_far b) first ∙ going)

  not_full : (limit : ℕ) (left now : Option (List ℕ)) (input : List ℕ) → IsSomeAnd left (EndsWithin lines limit) → Consumes left now input → length input ≡ limit → GoesOn lines input → ⊥
  not_full limit None now input e read full going = e
  not_full limit (Some bytes) None input e read full going = read
  not_full limit (Some bytes) (Some rest) input e read full going = not_going limit bytes input rest read full e going

  pub never_full : (limit : ℕ) (before : List ℕ → List ℕ) (call : Call) (last : List ℕ) → HasLines lines limit call → StopsFull limit (GoesOn lines) before call last → ⊥
  never_full limit before call last e s = not_full limit call.left_before call.left_now s.stops.input e s.stops.read s.full s.stops.going

-- of scenarios

abbrev is_ended : Ending → Bool
is_ended Going = false
is_ended Ended = true
is_ended (Bad n why) = false

pub scenarios_apart : AreApart scenario_lines
scenarios_apart = record { bad = λ n why e. true≢false (ap is_ended e); going = λ e. true≢false (ap is_ended e) }

-- the same of checks

not_found_bad : (line : ℕ) (why : LineWhy) (limit : ℕ) (left : Option (List ℕ)) → IsSomeAnd left (ChecksWithin limit) → IfSome left (λ bytes. (scenario_by true bytes).ending ≡ Bad line why) → ⊥
not_found_bad line why limit None e h = e
not_found_bad line why limit (Some bytes) e h = true≢false (sym (ap is_ended e.ended) ∙ ap is_ended h)

pub never_found_bad : (limit : ℕ) (call : Call) → HasChecked limit call → FindsBad limit call → ⊥
never_found_bad limit call e f = not_found_bad f.line f.why limit call.left_before e f.whole

not_filled : (limit : ℕ) (left now : Option (List ℕ)) (input : List ℕ) → IsSomeAnd left (ChecksWithin limit) → Consumes left now input → length input ≡ limit → ⊥
not_filled limit None now input e read full = e
not_filled limit (Some bytes) None input e read full = read
not_filled limit (Some bytes) (Some rest) input e read full = absurd (omega (arith, e.below, full, ap length read, length-append input rest))

pub never_filled : (limit : ℕ) (before : List ℕ → List ℕ) (call : Call) (last : List ℕ) → HasChecked limit call → StopsFull limit ReadsOn before call last → ⊥
never_filled limit before call last e s = not_filled limit call.left_before call.left_now s.stops.input e s.stops.read s.full
