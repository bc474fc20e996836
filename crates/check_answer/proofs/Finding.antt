-- What a check finds that has read these bytes and written what it says of them.
use Rattle.std.proofs.Common.{◌≡◌, ℕ, ◌+◌, ◌-◌, ◌<◌, ◌≤◌, true, List, [], ◌++◌, length, take, Option, None, Some, IfSome, sym, ◌∙◌, ap, subst, arith}
use Rattle.std.specs.Io.KnownBytes.{Appends, Consumes, IsAtEnd}
use Rattle.std.proofs.Math.Seq.{take-append-add}
use Rattle.std.proofs.lemmas.List.{append-nil}
use Rattle.br_model.specs.declared.scenario.LineWhy.{LineWhy}
use Rattle.br_model.specs.Program.Checks.{Difference, Finds, FindsBad, IsNotBad, SeesBad, answer_at, check_answer, checked}
use Rattle.br_model.specs.Program.Outcomes.{Call}
use Rattle.br_model.specs.Text.Scenario.{Scenario, Ending, Ended, Bad, Progress, opened, read, reads, scenario_by}
use Rattle.br_model.specs.Text.Transcript.{bad_text}
use Rattle.br_model.proofs.Text.Endings.{has_ended, closes_ended}
use Rattle.check_answer.proofs.StaysBad.{stays_bad}

-- a source that is at its end has given all
all_given : (left now : Option (List ℕ)) (input : List ℕ) → Consumes left now input → IsAtEnd now → IfSome left (λ bytes. bytes ≡ input)
all_given None now input given end = tt
all_given (Some bytes) None input given end = absurd given
all_given (Some bytes) (Some rest) input given end = given ∙ ap (λ (b : List ℕ). input ++ b) end ∙ append-nil input

-- what is so of them is so of all
so_of_all : (P : List ℕ → Type 0) (left : Option (List ℕ)) (input : List ℕ) → IfSome left (λ bytes. bytes ≡ input) → P input → IfSome left P
so_of_all P None input all p = tt
so_of_all P (Some bytes) input all p = subst P (sym all) p

-- what is so whatever follows
so_of_more : (P : List ℕ → Type 0) (left now : Option (List ℕ)) (input : List ℕ) → Consumes left now input → ((rest : List ℕ) → P (input ++ rest)) → IfSome left P
so_of_more P None now input given p = tt
so_of_more P (Some bytes) None input given p = absurd given
so_of_more P (Some bytes) (Some rest) input given p = subst P (sym given) (p rest)

module _ (line : ℕ) (why : LineWhy) where
  -- such bytes are bad, whatever follows
  bad_whole : (input rest : List ℕ) → (reads (opened true) input).ending ≡ Bad line why → (scenario_by true (input ++ rest)).ending ≡ Bad line why
  unfolding scenario_by
  bad_whole input rest is =
      let bytes : List ℕ = input ++ rest in
      let p : Progress = read 0 (opened true) bytes in
      let so : p.scenario.ending ≡ Bad line why = stays_bad line why (opened true) input rest is in
      ap (λ (s : Scenario). s.ending) (closes_ended p.scenario p.line (ap has_ended so)) ∙ so

  bad_here : (input : List ℕ) → (reads (opened true) input).ending ≡ Bad line why → (scenario_by true input).ending ≡ Bad line why
  bad_here input is = ap (λ (b : List ℕ). (scenario_by true b).ending) (sym (append-nil input)) ∙ bad_whole input [] is

  -- and a reader sees it
  seen : (limit : ℕ) (input rest : List ℕ) → length input ≤ limit → (reads (opened true) input).ending ≡ Bad line why → SeesBad limit (input ++ rest)
  seen limit input rest few is fits on =
      let more : ℕ = limit - length input in
      let first : take limit (input ++ rest) ≡ input ++ take more rest =
      ap (λ k. take k (input ++ rest)) {y = length input + more} (omega (arith, few)) ∙ take-append-add input rest more in
      subst IsNotBad (ap (λ (b : List ℕ). (reads (opened true) b).ending) first ∙ stays_bad line why (opened true) input (take more rest) is) on

  seen_here : (limit : ℕ) (input : List ℕ) → length input ≤ limit → (reads (opened true) input).ending ≡ Bad line why → SeesBad limit input
  seen_here limit input few is = subst (SeesBad limit) (append-nil input) (seen limit input [] few is)

  pub answer_bad : (bytes : List ℕ) → (scenario_by true bytes).ending ≡ Bad line why → check_answer bytes ≡ bad_text line why
  unfolding check_answer
  answer_bad bytes e = ap (λ (d : Ending). answer_at d (checked bytes)) e

module _ (left now before after : Option (List ℕ)) (input : List ℕ) (given : Consumes left now input) (limit : ℕ) where
  abbrev call : Call
  call = record { left_before = left; left_now = now; taken_before = before; taken_now = after }

  pub finds : (o : Option Difference) → IsAtEnd now → length input < limit → (scenario_by true input).ending ≡ Ended → checked input ≡ o → Appends before after (check_answer input)
      → Finds limit call o
  finds o end below ends is wrote =
      record { input = input; read = given; all = all_given left now input given end; below = below; ends = ends; finds = is; wrote = wrote }

  pub finds_bad : (line : ℕ) (why : LineWhy) → IsAtEnd now → length input < limit → (scenario_by true input).ending ≡ Bad line why → Appends before after (check_answer input) → FindsBad limit call
  finds_bad line why end below ends wrote =
      let all = all_given left now input given end in
      let unseen : SeesBad limit input = λ fits. absurd (omega (arith, below, fits)) in record {
        input = input;
        read = given;
        line = line;
        why = why;
        ends = ends;
        wrote = wrote;
        whole = so_of_all (λ bytes. (scenario_by true bytes).ending ≡ Bad line why) left input all ends;
        seen_here = unseen;
        seen = so_of_all (SeesBad limit) left input all unseen;
      }

  pub sees_bad : (line : ℕ) (why : LineWhy) → length input ≤ limit → (reads (opened true) input).ending ≡ Bad line why → Appends before after (bad_text line why) → FindsBad limit call
  sees_bad line why few is wrote =
      let ends = bad_here line why input is in record {
        input = input;
        read = given;
        line = line;
        why = why;
        ends = ends;
        wrote = subst (λ (text : List ℕ). Appends before after text) (sym (answer_bad line why input ends)) wrote;
        whole = so_of_more (λ bytes. (scenario_by true bytes).ending ≡ Bad line why) left now input given (λ rest. bad_whole line why input rest is);
        seen_here = seen_here line why limit input few is;
        seen = so_of_more (SeesBad limit) left now input given (λ rest. seen line why limit input rest few is);
      }
