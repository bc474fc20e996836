-- How a command ends, once what it found is written.
use Rattle.std.proofs.Common.{◌≡◌, ℕ, ◌<◌, ◌≤◌, Bool, true, false, List, length, Option, None, Some, IfSome, Result, Ok, Err, refl, sym, ◌∙◌, ap, subst}
use Rattle.std.specs.Io.KnownBytes.{Appends, Consumes, IsAtEnd}
use Rattle.run_io.specs.Causes.{Rose}
use Rattle.br_model.specs.Program.Outcomes.{Answers, GoesOn, HoldsNoEnd}
use Rattle.br_model.specs.Table.Limits.{most_bytes}
use Rattle.br_model.specs.Text.Scenario.{Ending}
use Rattle.br_model.proofs.Program.AllLeft.{below_limit, not_too_long, same_at_end, same_with_more}
use Rattle.run_status.specs.declared.stop.Stop.{Stop}
use Rattle.run_status.specs.declared.stop.Stop.TheVariants as stops
use Rattle.run_status.specs.declared.status.Status.{Status}
use Rattle.run_status.specs.declared.status.Status.TheVariants as statuses
use Rattle.run_status.specs.Statuses.{Caused, EndsIn, call_of}
use Rattle.run_status.specs.Stopping.{Caused as StopsBy, stop_line, stop_status}
use Rattle.run_status.proofs.Ends.{Broke, Went, by_status}
use Rattle.whole_answer.specs.declared.answer.Found.{Found}
use Rattle.whole_answer.specs.declared.answer.Verdict.{Verdict}
use Rattle.whole_answer.specs.declared.answer.Verdict.TheVariants.{Yes, No, Bad}
use Rattle.whole_answer.specs.Answers.{AnswersSo, Asked, Ends, EndsSo, Finds, HasVerdict, SeesOr, answer_ways, verdict_status}

-- all that is said of an input
abbrev said : Asked → List ℕ → Ending × (List ℕ × Bool)
said asked bytes = (asked.lines.whole bytes, (asked.text bytes, asked.yes bytes))

so_by : (P Q : List ℕ → Type 0) (left : Option (List ℕ)) → ((bytes : List ℕ) → P bytes → Q bytes) → IfSome left P → IfSome left Q
so_by P Q None f p = tt
so_by P Q (Some bytes) f p = f bytes p

module _ (failed : Type 0) (asked : Asked) (left now : Option (List ℕ)) (input : List ℕ) (given : Consumes left now input) where
  abbrev IsSaid : List ℕ → Type 0
  IsSaid bytes = said asked bytes ≡ said asked input

  module _ (same : IfSome left IsSaid) (within : IfSome left (λ bytes. ¬ HoldsNoEnd asked.lines most_bytes bytes)) where
    answers_it : (ending : Ending) → asked.lines.whole input ≡ ending → (before after : Option (List ℕ)) → Appends before after (asked.text input)
        → Answers asked.lines asked.text (call_of left now before after) ending
    answers_it ending ends before after wrote = record {
      input = input;
      read = given;
      ends = ends;
      wrote = wrote;
      whole = so_by IsSaid (λ bytes. (asked.lines.whole bytes ≡ ending) × (asked.text bytes ≡ asked.text input)) left (λ bytes is. (ap (λ x. x.0) is ∙ ends, ap (λ x. x.1.0) is)) same;
    }

    yes_of_all : (b : Bool) → asked.yes input ≡ b → IfSome left (λ bytes. asked.yes bytes ≡ b)
    yes_of_all b is = so_by IsSaid (λ bytes. asked.yes bytes ≡ b) left (λ bytes so. ap (λ x. x.1.1) so ∙ is) same

    by_verdict : (v : Verdict) → HasVerdict asked input (asked.lines.whole input) v → EndsSo failed asked left now (asked.text input) (verdict_status v)
    unfolding answers_it
    by_verdict Yes h = λ before after a. record { answers = answers_it asked.lines.ended h.0 before after a; yes_so = h.1; whole = yes_of_all true h.1; within = within }
    by_verdict No h = λ before after a. record { answers = answers_it asked.lines.ended h.0 before after a; yes_so = h.1; whole = yes_of_all false h.1; within = within }
    by_verdict Bad h = λ before after a. ((h.0, h.1, answers_it (asked.lines.bad h.0 h.1) h.2 before after a), within)

    found_ends : (found : Found) → Finds asked input found → AnswersSo failed asked left now (Ok found)
    found_ends found f =
        subst (λ (text : List ℕ). EndsSo failed asked left now text (verdict_status found.verdict)) (sym f.text) (by_verdict found.verdict f.verdict)

  -- all bytes were taken
  pub ends_found : (found : Found) → IsAtEnd now → length input < most_bytes → Finds asked input found → AnswersSo failed asked left now (Ok found)
  ends_found found end below f =
      found_ends (same_at_end (said asked) left now input given end) (below_limit asked.lines most_bytes left now input given end below) found f

  -- or no more are

  ends_seen : (found : Found) → length input ≤ most_bytes → Ends asked input found → AnswersSo failed asked left now (Ok found)
  ends_seen found few e =
      found_ends (same_with_more (said asked) left now input given (λ rest i. let s = e.same rest in (s.whole i, (s.text i, s.yes i))))
      (not_too_long asked.lines most_bytes left now input given few e.never) found e.finds

  pub ends_failed : failed → length input < most_bytes → GoesOn asked.lines input → EndsSo failed asked left now (stop_line stops.ReadFault) (stop_status stops.ReadFault)
  ends_failed fault below on = λ before after a. (fault, record { stops = record { input = input; read = given; going = on; wrote = a }; below = below })

  pub ends_full : length input ≡ most_bytes → GoesOn asked.lines input → EndsSo failed asked left now (stop_line stops.TooLong) (stop_status stops.TooLong)
  ends_full full on = λ before after a. record { stops = record { input = input; read = given; going = on; wrote = a }; full = full }

  ends_lacking : EndsSo failed asked left now (stop_line stops.NoMemory) (stop_status stops.NoMemory)
  ends_lacking = λ before after a. record { input = input; read = given; count = 0; wrote = a }

  pub ends_stopped : (stop : Stop) (result : Result Found Stop) → length input ≤ most_bytes → (GoesOn asked.lines input → EndsSo failed asked left now (stop_line stop) (stop_status stop))
      → SeesOr asked input stop result → AnswersSo failed asked left now result
  ends_stopped stop (Ok found) few ends h = ends_seen found few h
  ends_stopped stop (Err stops.NoMemory) few ends h = ends_lacking
  ends_stopped stop (Err stops.ReadFault) few ends h = subst (λ (s : Stop). EndsSo failed asked left now (stop_line s) (stop_status s)) h.0 (ends h.1)
  ends_stopped stop (Err stops.TooLong) few ends h = subst (λ (s : Stop). EndsSo failed asked left now (stop_line s) (stop_status s)) h.0 (ends h.1)

  pub lacks_memory : (result : Result Found Stop) → result ≡ Err stops.NoMemory → AnswersSo failed asked left now result
  lacks_memory result is = subst (λ (r : Result Found Stop). AnswersSo failed asked left now r) (sym is) ends_lacking

pub sees_none : (asked : Asked) (bytes : List ℕ) (stop : Stop) → GoesOn asked.lines bytes → SeesOr asked bytes stop (Err stop)
sees_none asked bytes stops.NoMemory on = tt
sees_none asked bytes stops.ReadFault on = (refl, on)
sees_none asked bytes stops.TooLong on = (refl, on)

-- statuses and causes

pub caused_stopped : (asked : Asked) (bytes : List ℕ) (stop : Stop) (result : Result Found Stop) (before now : ℕ) → SeesOr asked bytes stop result → (stop ≡ stops.ReadFault → Rose before now)
    → StopsBy before now result
caused_stopped asked bytes stop (Ok found) before now h f = tt
caused_stopped asked bytes stop (Err stops.NoMemory) before now h f = tt
caused_stopped asked bytes stop (Err stops.ReadFault) before now h f = f h.0
caused_stopped asked bytes stop (Err stops.TooLong) before now h f = tt

pub calm : (v : Verdict) (s : Status) → s ≡ verdict_status v → Went s
calm Yes s is = λ e. let no : statuses.WriteFault ≡ statuses.Ok = sym e ∙ is in absurd (cc)
calm No s is = λ e. let no : statuses.WriteFault ≡ statuses.No = sym e ∙ is in absurd (cc)
calm Bad s is = λ e. let no : statuses.WriteFault ≡ statuses.BadLine = sym e ∙ is in absurd (cc)

pub caused_found : (v : Verdict) (s : Status) (reads reads_now writes writes_now : ℕ) → s ≡ verdict_status v → Caused s reads reads_now writes writes_now
caused_found v s reads reads_now writes writes_now is = subst (λ (r : Status). Caused r reads reads_now writes writes_now) (sym is) (by v)
  where
    by : (v : Verdict) → Caused (verdict_status v) reads reads_now writes writes_now
    by Yes = tt
    by No = tt
    by Bad = tt

-- what was found is written, or a write fails
pub answer_ends : (failed : Type 0) (asked : Asked) (left left_now before now : Option (List ℕ)) (text : List ℕ) (s r : Status) → EndsSo failed asked left left_now text s → (Went r → r ≡ s)
    → (Went r → Appends before now text) → Broke r before now text → EndsIn (answer_ways failed asked) r (call_of left left_now before now)
answer_ends failed asked left left_now before now text s r ends = by_status (answer_ways failed asked) left left_now before now text s (λ after a. ends before after a) r
