-- How a check ends, once what it found is written.
use Rattle.std.proofs.Common.{◌≡◌, ℕ, ◌<◌, ◌≤◌, ◌==◌, true, false, List, [], ◌∷◌, ◌++◌, length, Option, None, Some, Result, Ok, Err, IfOk, refl, sym, ◌∙◌, ap, subst, append_assoc, arith}
use Rattle.std.proofs.lemmas.Bool.{eqb-true}
use Rattle.run_io.specs.Causes.{Rose}
use Rattle.run_status.specs.Stopping.{Caused as StopsBy}
use Rattle.std.specs.Io.KnownBytes.{Appends, Consumes, IsAtEnd}
use Rattle.br_model.specs.declared.scenario.LineWhy.{LineWhy}
use Rattle.br_model.specs.Program.Checks.{Difference, IsNotBad, ReadsOn, answer_at, answer_text, check_answer, checked, differs, with_text}
use Rattle.br_model.specs.Table.Limits.{most_bytes}
use Rattle.br_model.specs.Text.Scenario.{Ending, Ended, Bad, behind_end, opened, reads, scenario_by}
use Rattle.scenario_reader.specs.declared.reader.Last.{Last}
use Rattle.scenario_reader.specs.declared.reader.Last.TheVariants as lasts
use Rattle.scenario_reader.specs.Reading.{ending_of}
use Rattle.scenario_reader.specs.Whole.{ending_or_going}
use Rattle.check_answer.specs.declared.checking.Found.{Found}
use Rattle.run_status.specs.declared.stop.Stop.{Stop}
use Rattle.run_status.specs.declared.stop.Stop.TheVariants as stops
use Rattle.run_status.specs.declared.status.Status.{Status}
use Rattle.run_status.specs.declared.status.Status.TheVariants as statuses
use Rattle.check_answer.specs.Checking.{ChecksSo, EndsSo, IsFound, IsFoundBad, IsSaid, SeesBadOr, answer_status, found_status}
use Rattle.run_status.specs.Statuses.{At, Caused, EndsIn, call_of, check_ways}
use Rattle.run_status.specs.Stopping.{stop_line, stop_status}
use Rattle.check_answer.proofs.Finding.{answer_bad, finds, finds_bad, sees_bad}
use Rattle.run_status.proofs.Ends.{Broke, Went, by_status}

-- a line of an answer

pub with_none : (word text : List ℕ) → (length text == 0) ≡ true → with_text word text ≡ word ++ 10 ∷ []
with_none word [] h = refl
with_none word (byte ∷ text) h = absurd (omega (arith, eqb-true (length (byte ∷ text)) 0 h))

pub with_some : (word text : List ℕ) → (length text == 0) ≡ false → with_text word text ≡ word ++ (32 ∷ (text ++ 10 ∷ []))
with_some word [] h = absurd (cc)
with_some word (byte ∷ text) h = refl

pub joined : (old word text : List ℕ) → (((old ++ word) ++ 32 ∷ []) ++ text) ++ 10 ∷ [] ≡ old ++ (word ++ (32 ∷ (text ++ 10 ∷ [])))
joined old word text =
    append_assoc ((old ++ word) ++ 32 ∷ []) text (10 ∷ []) ∙ append_assoc (old ++ word) (32 ∷ []) (text ++ 10 ∷ []) ∙ append_assoc old word (32 ∷ (text ++ 10 ∷ []))

pub three : (front line a b : List ℕ) → ((front ++ (line ++ 10 ∷ [])) ++ a) ++ b ≡ front ++ (line ++ (10 ∷ (a ++ b)))
three front line a b =
    append_assoc (front ++ (line ++ 10 ∷ [])) a b ∙ append_assoc front (line ++ 10 ∷ []) (a ++ b) ∙ ap (λ (x : List ℕ). front ++ x) (append_assoc line (10 ∷ []) (a ++ b))

-- all bytes were taken, and this is found in them

pub found_answer : (bytes transcript : List ℕ) (found : Found) (d : Option Difference) → (scenario_by true bytes).ending ≡ Ended → transcript ≡ behind_end true bytes → differs bytes transcript ≡ d
    → found.text.items ≡ answer_text d → found.status ≡ answer_status d → IsFound bytes found
unfolding check_answer checked
found_answer bytes transcript found d ends behind is text status =
    let here : checked bytes ≡ d = ap (differs bytes) (sym behind) ∙ is in record {
      last = lasts.Ended;
      ends = ends;
      text = text ∙ sym (ap (λ (e : Ending). answer_at e (checked bytes)) ends ∙ ap answer_text here);
      status = status ∙ sym (ap answer_status here);
    }

pub found_bad_line : (bytes : List ℕ) (found : Found) (line : ℕ) (why : LineWhy) → (scenario_by true bytes).ending ≡ Bad line why → IsFoundBad line why found → IsFound bytes found
found_bad_line bytes found line why ends f = record {
  last = lasts.Bad line why;
  ends = ends;
  text = f.0 ∙ sym (answer_bad line why bytes ends);
  status = f.1;
}

module _ (failed : Type 0) (left now : Option (List ℕ)) (input : List ℕ) (given : Consumes left now input) where
  -- the same with another name of the status
  named : (s t : Status) (before after : Option (List ℕ)) → s ≡ t → At (check_ways failed) t (call_of left now before after) → At (check_ways failed) s (call_of left now before after)
  named s t before after is h = subst (λ (s : Status). At (check_ways failed) s (call_of left now before after)) (sym is) h

  answered : (last : Last) (d : Option Difference) (status : Status) → IsAtEnd now → length input < most_bytes → (scenario_by true input).ending ≡ ending_of last → checked input ≡ d
      → status ≡ found_status last d → EndsSo failed left now (check_answer input) status
  answered lasts.Ended None status end below ends is s = λ before after a.
      named status statuses.Ok before after s (finds left now before after input given most_bytes None end below ends is a)
  answered lasts.Ended (Some d) status end below ends is s = λ before after a.
      named status statuses.No before after s (d, finds left now before after input given most_bytes (Some d) end below ends is a)
  answered (lasts.Bad line why) d status end below ends is s = λ before after a.
      named status statuses.BadLine before after s (finds_bad left now before after input given most_bytes line why end below ends a)

  pub ends_found : (found : Found) → IsAtEnd now → length input < most_bytes → IsFound input found → EndsSo failed left now found.text.items found.status
  ends_found found end below f =
      subst (λ (text : List ℕ). EndsSo failed left now text found.status) (sym f.text)
      (answered f.last (checked input) found.status end below f.ends refl f.status)

  -- or no more bytes are taken

  ends_bad : (found : Found) (line : ℕ) (why : LineWhy) → length input ≤ most_bytes → (reads (opened true) input).ending ≡ Bad line why → IsFoundBad line why found
      → EndsSo failed left now found.text.items found.status
  ends_bad found line why few is f = λ before after a.
      named found.status statuses.BadLine before after f.1
      (sees_bad left now before after input given most_bytes line why few is (subst (λ (text : List ℕ). Appends before after text) f.0 a))

  pub ends_failed : failed → length input < most_bytes → ReadsOn input → EndsSo failed left now (stop_line stops.ReadFault) (stop_status stops.ReadFault)
  ends_failed fault below on = λ before after a. (fault, record { stops = record { input = input; read = given; going = on; wrote = a }; below = below })

  pub ends_full : length input ≡ most_bytes → ReadsOn input → EndsSo failed left now (stop_line stops.TooLong) (stop_status stops.TooLong)
  ends_full full on = λ before after a. record { stops = record { input = input; read = given; going = on; wrote = a }; full = full }

  pub ends_lacking : EndsSo failed left now (stop_line stops.NoMemory) (stop_status stops.NoMemory)
  ends_lacking = λ before after a. record { input = input; read = given; count = 0; wrote = a }

  pub ends_stopped : (stop : Stop) (result : Result Found Stop) → length input ≤ most_bytes → (ReadsOn input → EndsSo failed left now (stop_line stop) (stop_status stop)) → SeesBadOr input stop result
      → ChecksSo failed left now result
  ends_stopped stop (Ok found) few ends h = ends_bad found h.0 h.1 few h.2 h.3
  ends_stopped stop (Err stops.NoMemory) few ends h = ends_lacking
  ends_stopped stop (Err stops.ReadFault) few ends h = subst (λ (s : Stop). EndsSo failed left now (stop_line s) (stop_status s)) h.0 (ends h.1)
  ends_stopped stop (Err stops.TooLong) few ends h = subst (λ (s : Stop). EndsSo failed left now (stop_line s) (stop_status s)) h.0 (ends h.1)

pub lacks_memory : (failed : Type 0) (left now : Option (List ℕ)) (input : List ℕ) → Consumes left now input → (result : Result Found Stop) → result ≡ Err stops.NoMemory
    → ChecksSo failed left now result
lacks_memory failed left now input given result is = subst (λ (r : Result Found Stop). ChecksSo failed left now r) (sym is) (ends_lacking failed left now input given)

pub caused_stopped : (bytes : List ℕ) (stop : Stop) (result : Result Found Stop) (before now : ℕ) → SeesBadOr bytes stop result → (stop ≡ stops.ReadFault → Rose before now) → StopsBy before now result
caused_stopped bytes stop (Ok found) before now h f = tt
caused_stopped bytes stop (Err stops.NoMemory) before now h f = tt
caused_stopped bytes stop (Err stops.ReadFault) before now h f = f h.0
caused_stopped bytes stop (Err stops.TooLong) before now h f = tt

-- bytes whose whole lines end in no bad one
pub reads_on : (bytes : List ℕ) (last : Option Last) (d : Last) → (reads (opened true) bytes).ending ≡ ending_or_going last → last ≡ Some d → d ≡ lasts.Ended → ReadsOn bytes
reads_on bytes last d is some ended = subst IsNotBad (sym (is ∙ ap ending_or_going (some ∙ ap Some ended))) tt

pub reads_further : (bytes : List ℕ) (last : Option Last) → (reads (opened true) bytes).ending ≡ ending_or_going last → last ≡ None → ReadsOn bytes
reads_further bytes last is none = subst IsNotBad (sym (is ∙ ap ending_or_going none)) tt

pub sees_none : (bytes : List ℕ) (stop : Stop) → ReadsOn bytes → SeesBadOr bytes stop (Err stop)
sees_none bytes stops.NoMemory on = tt
sees_none bytes stops.ReadFault on = (refl, on)
sees_none bytes stops.TooLong on = (refl, on)

-- the statuses and causes of a check that stopped
pub said_stopped : (bytes : List ℕ) (stop : Stop) (result : Result Found Stop) → SeesBadOr bytes stop result → IfOk result (λ found. IsSaid found.status)
said_stopped bytes stop (Ok found) h = subst IsSaid (sym h.3.1) tt
said_stopped bytes stop (Err e) h = tt

-- what was found is written, or a write fails
pub check_ends : (failed : Type 0) (left left_now before now : Option (List ℕ)) (text : List ℕ) (s r : Status) → EndsSo failed left left_now text s → (Went r → r ≡ s)
    → (Went r → Appends before now text) → Broke r before now text → EndsIn (check_ways failed) r (call_of left left_now before now)
check_ends failed left left_now before now text s r ends = by_status (check_ways failed) left left_now before now text s (λ after a. ends before after a) r

pub calm_said : (s : Status) → IsSaid s → Went s
calm_said statuses.Ok h = λ e. absurd (cc)
calm_said statuses.No h = λ e. absurd (cc)
calm_said statuses.Usage h = λ e. absurd (cc)
calm_said statuses.BadLine h = λ e. absurd (cc)
calm_said statuses.ReadFault h = λ e. absurd (cc)
calm_said statuses.WriteFault h = absurd h
calm_said statuses.NoMemory h = λ e. absurd (cc)
calm_said statuses.TooLong h = λ e. absurd (cc)

pub caused_said : (s : Status) (reads reads_now writes writes_now : ℕ) → IsSaid s → Caused s reads reads_now writes writes_now
caused_said statuses.Ok reads reads_now writes writes_now h = tt
caused_said statuses.No reads reads_now writes writes_now h = tt
caused_said statuses.Usage reads reads_now writes writes_now h = tt
caused_said statuses.BadLine reads reads_now writes writes_now h = tt
caused_said statuses.ReadFault reads reads_now writes writes_now h = absurd h
caused_said statuses.WriteFault reads reads_now writes writes_now h = absurd h
caused_said statuses.NoMemory reads reads_now writes writes_now h = tt
caused_said statuses.TooLong reads reads_now writes writes_now h = tt

-- what is found says how it ends
pub said_found : (bytes : List ℕ) (found : Found) → IsFound bytes found → IsSaid found.status
said_found bytes found f = subst IsSaid (sym f.status) (said f.last (checked bytes))
  where
    said : (last : Last) (d : Option Difference) → IsSaid (found_status last d)
    said lasts.Ended None = tt
    said lasts.Ended (Some d) = tt
    said (lasts.Bad line why) d = tt
