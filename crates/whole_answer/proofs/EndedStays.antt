-- What has ended in some bytes has ended so where more bytes follow.
use Rattle.std.proofs.Common.{◌≡◌, ℕ, zero, suc, ◌+◌, ◌<◌, ◌≤◌, ◌==◌, Bool, true, false, not, if◌then◌else◌, List, [], ◌∷◌, ◌++◌}
use Rattle.std.proofs.Common.{length, take, Option, None, Some, Result, Ok, Err, refl, sym, ◌∙◌, ap, arith, nat_lt, length-append}
use Rattle.std.proofs.lemmas.Bool.{true≢false, le-ltb, and_from, ltb-false, ltb-true}
use Rattle.std.proofs.lemmas.List.{take-append-le}
use Rattle.br_model.specs.declared.scenario.LineWhy.{LineWhy}
use Rattle.br_model.specs.declared.scenario.LineWhy.TheVariants.{Long}
use Rattle.br_model.specs.declared.scenario.Said.{Said}
use Rattle.br_model.specs.Text.Scenario.{Scenario, Ending, Going, Ended, Bad, Front, Progress, bad, front, in_front, longest_line}
use Rattle.br_model.specs.Text.Scenario.{opened, read, reads, reads_at, reads_front, reads_line, scenario, section_length, takes, whole_says}
use Rattle.br_model.specs.Theorems.WholeLines.{is_line}
use Rattle.br_model.proofs.Text.Endings.{has_ended, closes_ended, read_ended}
use Rattle.br_model.proofs.Text.Reading.{read_long, scenario_is}
use Rattle.br_model.proofs.Text.MoreBytes.{Grows, front_grows}

-- what has ended takes no more
over : (ahead : ℕ) (s : Scenario) (more : List ℕ) → has_ended s.ending ≡ true → (read ahead s more).scenario ≡ s
unfolding read
over ahead s [] h = refl
over (suc ahead) s (byte ∷ more) h = over ahead s more h
over zero s (byte ∷ more) h = ap (λ (p : Progress). p.scenario) (read_ended s (byte ∷ more) h)

-- bytes without a line feed
no_feed : (bytes : List ℕ) → front bytes ≡ None → is_line bytes ≡ true
unfolding front
no_feed [] h = refl
no_feed (byte ∷ bytes) h = by (byte == 10) (front bytes) refl refl h (no_feed bytes)
  where
    by : (b : Bool) (o : Option Front) → (byte == 10) ≡ b → front bytes ≡ o → (if b then Some (record { line = []; behind = bytes }) else in_front byte o) ≡ None
        → (front bytes ≡ None → is_line bytes ≡ true) → is_line (byte ∷ bytes) ≡ true
    by true o d e h later = absurd (cc)
    by false None d e h later = and_from _ _ (ap not d) (later e)
    by false (Some f) d e h later = absurd (cc)

abbrev Goes : Type 0
Goes = ℕ → Scenario → Progress

abbrev taken : Scenario → Said → Front → Goes → Bool → Progress
taken s said f go_on b =
    if b then record { scenario = s; line = []; behind = [] } else go_on (length f.line + section_length said) (takes s said (take (section_length said) f.behind))

module _ (s : Scenario) (more : List ℕ) (go_on go_on' : Goes) (same : (n : ℕ) (t : Scenario) → has_ended (go_on n t).scenario.ending ≡ true → (go_on' n t).scenario ≡ (go_on n t).scenario)
    (going : s.ending ≡ Going) where
  not_ended : has_ended s.ending ≡ true → ⊥
  not_ended h = true≢false (sym h ∙ ap has_ended going)

  abbrev with_more : Front → Front
  with_more f = record { line = f.line; behind = f.behind ++ more }

  taken_same : (said : Said) (f : Front) (b : Bool) → nat_lt (length f.behind) (section_length said) ≡ b → has_ended (taken s said f go_on b).scenario.ending ≡ true
      → (reads_line s (with_more f) (Ok said) go_on').scenario ≡ (taken s said f go_on b).scenario
  taken_same said f true e h = absurd (not_ended h)
  taken_same said f false e h =
      let n : ℕ = section_length said in
      let k : ℕ = length f.line + n in
      let fits : n ≤ length f.behind = ltb-false (length f.behind) n e in
      ap (λ (b : Bool). (taken s said (with_more f) go_on' b).scenario) (le-ltb (length (f.behind ++ more)) n (omega (arith, fits, length-append f.behind more)))
      ∙ ap (λ (part : List ℕ). (go_on' k (takes s said part)).scenario) (take-append-le n f.behind more fits)
      ∙ same k (takes s said (take n f.behind)) h

  says_same : (f : Front) (r : Result Said LineWhy) → has_ended (reads_line s f r go_on).scenario.ending ≡ true → (reads_line s (with_more f) r go_on').scenario ≡ (reads_line s f r go_on).scenario
  says_same f (Err fault) h = refl
  says_same f (Ok said) h = taken_same said f (nat_lt (length f.behind) (section_length said)) refl h

  long_same : (bytes : List ℕ) (b : Bool) (p : Progress) → nat_lt longest_line (length bytes) ≡ b → (longest_line < length bytes → p.scenario ≡ bad s Long)
      → has_ended (if b then bad s Long else s).ending ≡ true → p.scenario ≡ (if b then bad s Long else s)
  long_same bytes true p e long h = long (ltb-true longest_line (length bytes) e)
  long_same bytes false p e long h = absurd (not_ended h)

  front_same : (bytes : List ℕ) (o whole : Option Front) → front bytes ≡ o → Grows o whole more
      → (longest_line < length bytes → is_line bytes ≡ true → (reads_front s (bytes ++ more) whole go_on').scenario ≡ bad s Long)
      → has_ended (reads_front s bytes o go_on).scenario.ending ≡ true → (reads_front s (bytes ++ more) whole go_on').scenario ≡ (reads_front s bytes o go_on).scenario
  front_same bytes None whole e g long h = long_same bytes (nat_lt longest_line (length bytes)) (reads_front s (bytes ++ more) whole go_on') refl (λ far. long far (no_feed bytes e)) h
  front_same bytes (Some f) whole e g long h =
      ap (λ (o : Option Front). (reads_front s (bytes ++ more) o go_on').scenario) g ∙ says_same f (whole_says s.roster f.line) h

at_same : (d : Ending) (s : Scenario) (bytes more : List ℕ) (go_on go_on' : Goes) → s.ending ≡ d
    → ((n : ℕ) (t : Scenario) → has_ended (go_on n t).scenario.ending ≡ true → (go_on' n t).scenario ≡ (go_on n t).scenario)
    → (longest_line < length bytes → is_line bytes ≡ true → s.ending ≡ Going → (reads_at d s (bytes ++ more) go_on').scenario ≡ bad s Long)
    → has_ended (reads_at d s bytes go_on).scenario.ending ≡ true → (reads_at d s (bytes ++ more) go_on').scenario ≡ (reads_at d s bytes go_on).scenario
at_same Going s bytes more go_on go_on' e same long h =
    front_same s more go_on go_on' same e bytes (front bytes) (front (bytes ++ more)) refl (front_grows bytes more) (λ far feedless. long far feedless e) h
at_same Ended s bytes more go_on go_on' e same long h = refl
at_same (Bad n why) s bytes more go_on go_on' e same long h = refl

pub ends_same : (ahead : ℕ) (s : Scenario) (bytes more : List ℕ) → has_ended (read ahead s bytes).scenario.ending ≡ true → (read ahead s (bytes ++ more)).scenario ≡ (read ahead s bytes).scenario
unfolding read
ends_same ahead s [] more h = over ahead s more h
ends_same (suc ahead) s (byte ∷ bytes) more h = ends_same ahead s bytes more h
ends_same zero s (byte ∷ bytes) more h =
    at_same s.ending s (byte ∷ bytes) more (λ n t. read n t bytes) (λ n t. read n t (bytes ++ more)) refl (λ n t. ends_same n t bytes more)
    (λ far feedless going. read_long s (byte ∷ bytes) more going feedless far) h

-- what the lines of a source's bytes have ended

pub reads_same : (bytes more : List ℕ) → has_ended (reads (opened false) bytes).ending ≡ true → reads (opened false) (bytes ++ more) ≡ reads (opened false) bytes
reads_same bytes more h = ends_same 0 (opened false) bytes more h

-- so has the scenario
pub scenario_ended : (bytes : List ℕ) → has_ended (reads (opened false) bytes).ending ≡ true → scenario bytes ≡ reads (opened false) bytes
scenario_ended bytes h = let p : Progress = read 0 (opened false) bytes in scenario_is bytes ∙ closes_ended p.scenario p.line h

pub scenario_same : (bytes more : List ℕ) → has_ended (reads (opened false) bytes).ending ≡ true → scenario (bytes ++ more) ≡ scenario bytes
scenario_same bytes more h =
    let same = reads_same bytes more h in
    scenario_ended (bytes ++ more) (ap (λ (t : Scenario). has_ended t.ending) same ∙ h) ∙ same ∙ sym (scenario_ended bytes h)
