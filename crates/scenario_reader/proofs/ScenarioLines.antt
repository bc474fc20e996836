-- Each step of a scenario has a line.
use Rattle.std.proofs.Common.{◌≡◌, ℕ, zero, suc, ◌+◌, ◌==◌, nat_lt, Bool, true, false, if◌then◌else◌, List, [], ◌∷◌, ◌++◌, length, take, IfOk, IfSome, refl, ◌∙◌, ap}
use Rattle.std.specs.Cmp.{second_so}
use Rattle.std.specs.List.{list_all}
use Rattle.std.specs.declared.option.Option.{Option}
use Rattle.std.specs.declared.option.Option.TheVariants.{None, Some}
use Rattle.std.specs.declared.result.Result.{Result}
use Rattle.std.specs.declared.result.Result.TheVariants.{Ok, Err}
use Rattle.std.proofs.lemmas.List.{append-nil}
use Rattle.std.proofs.lemmas.List.Folds.{list_all-append}
use Rattle.std.proofs.lemmas.Bool.{and_from}
use Rattle.br_model.specs.declared.scenario.LineWhy.{LineWhy}
use Rattle.br_model.specs.declared.scenario.LineWhy.TheVariants.{Long}
use Rattle.br_model.specs.declared.scenario.Place.TheVariants.{Steps}
use Rattle.br_model.specs.declared.scenario.Said.{Said}
use Rattle.br_model.specs.declared.scenario.Said.TheVariants.{Blank, Opens, Bridge, Declares, Does, Captures, Ends}
use Rattle.br_model.specs.declared.steps.Step.{Step}
use Rattle.br_model.specs.Text.Operands.{is_byte}
use Rattle.br_model.specs.Text.Roster.{Entry}
use Rattle.br_model.specs.Text.Scenario.{Scenario, Ending, Going, Ended, Bad, Front, Progress, bad, captured, front, in_front}
use Rattle.br_model.specs.Text.Scenario.{longest_line, opened, read, reads_at, reads_front, reads_line, scenario_by, section_length, takes, takes_steps, whole_says}
use Rattle.br_model.specs.Text.ScenarioText.{has_line}
use Rattle.br_model.specs.Wire.Captures.{packets}
use Rattle.br_model.proofs.Text.Places.{FitsPlace, line_in_place}
use Rattle.br_model.proofs.Text.Reading.{closes_keeps}
use Rattle.scenario_text.proofs.StepsRead.{take_bytes, whole_step_has_line}
use Rattle.scenario_reader.proofs.SectionLines.{section_lines}

abbrev have_lines : List Entry → List Step → Bool
have_lines ports steps = list_all (has_line ports) steps

-- before the first step nothing has one
record Fine (s : Scenario) : Type 0 where
  early : (s.roster.place ≡ Steps → ⊥) → s.steps ≡ []
  lines : have_lines s.roster.ports s.steps ≡ true

-- a line

-- without a step
calm : (ports : List Entry) (steps : List Step) → have_lines ports steps ≡ true → have_lines ports (steps ++ []) ≡ true
calm ports steps h = ap (have_lines ports) (append-nil steps) ∙ h

-- before the first step
declares : (ports : List Entry) (steps : List Step) → steps ≡ [] → have_lines ports (steps ++ []) ≡ true
declares ports steps none = ap (λ (l : List Step). have_lines ports (l ++ [])) none

more : (ports : List Entry) (steps later : List Step) → have_lines ports steps ≡ true → have_lines ports later ≡ true → have_lines ports (steps ++ later) ≡ true
more ports steps later h k = list_all-append (has_line ports) steps later ∙ and_from _ _ h k

section_fine : (s : Scenario) (n : ℕ) (r : Result (List Step) LineWhy) → Fine s → IfOk r (λ steps. have_lines s.roster.ports steps ≡ true) → Fine (takes_steps s (Captures n) r)
section_fine s n (Err fault) f h = record { early = f.early; lines = f.lines }
section_fine s n (Ok steps) f h = record { early = λ no. absurd (no refl); lines = more s.roster.ports s.steps steps f.lines h }

line_fine : (s : Scenario) (said : Said) (section : List ℕ) → FitsPlace s.roster.place said → ((step : Step) → said ≡ Does step → has_line s.roster.ports step ≡ true)
    → list_all is_byte section ≡ true → Fine s
    → Fine (takes s said section)
line_fine s Blank section fits step are f = record { early = λ no. ap (λ (l : List Step). l ++ []) (f.early no); lines = calm s.roster.ports s.steps f.lines }
line_fine s (Opens edition) section fits step are f = record { early = λ no. ap (λ (l : List Step). l ++ []) (f.early fits); lines = declares s.roster.ports s.steps (f.early fits) }
line_fine s (Bridge mac) section fits step are f = record { early = λ no. ap (λ (l : List Step). l ++ []) (f.early fits); lines = declares s.roster.ports s.steps (f.early fits) }
line_fine s (Declares port name dom) section fits step are f = record {
  early = λ no. ap (λ (l : List Step). l ++ []) (f.early fits);
  lines = declares (s.roster.ports ++ record { name = name; port = port; dom = dom } ∷ []) s.steps (f.early fits);
}
line_fine s (Does x) section fits step are f = record { early = λ no. absurd (no refl); lines = more s.roster.ports s.steps (x ∷ []) f.lines (and_from _ true (step x refl) refl) }
line_fine s (Captures n) section fits step are f = section_fine s n (captured s.roster.ports (packets section (length s.roster.ports))) f (section_lines s.roster.ports section are)
line_fine s Ends section fits step are f = record { early = λ no. ap (λ (l : List Step). l ++ []) (f.early no); lines = calm s.roster.ports s.steps f.lines }

-- all lines

behind_bytes : (bytes : List ℕ) → list_all is_byte bytes ≡ true → IfSome (front bytes) (λ f. list_all is_byte f.behind ≡ true)
unfolding front
behind_bytes [] h = tt
behind_bytes (byte ∷ bytes) h = by (byte == 10) (front bytes) (behind_bytes bytes (second_so _ _ h))
  where
    by : (b : Bool) (o : Option Front) → IfSome o (λ f. list_all is_byte f.behind ≡ true)
        → IfSome (if b then Some (record { line = []; behind = bytes }) else in_front byte o) (λ f. list_all is_byte f.behind ≡ true)
    by true o k = second_so _ _ h
    by false None k = tt
    by false (Some f) k = k

abbrev Goes : Type 0
Goes = ℕ → Scenario → Progress

abbrev Keeps : Goes → Type 0
Keeps go_on = (n : ℕ) (t : Scenario) → Fine t → Fine (go_on n t).scenario

module _ (s : Scenario) (f : Fine s) (go_on : Goes) (keeps : Keeps go_on) where
  -- a line that is too long
  bad_fine : (why : LineWhy) → Fine (bad s why)
  bad_fine why = record { early = f.early; lines = f.lines }

  begins_fine : (b : Bool) → Fine (if b then bad s Long else s)
  begins_fine true = bad_fine Long
  begins_fine false = f

  taken_fine : (said : Said) (p : Front) (b : Bool) → whole_says s.roster p.line ≡ Ok said → list_all is_byte p.behind ≡ true
      → Fine (if b then record { scenario = s; line = []; behind = [] } else go_on (length p.line + section_length said) (takes s said (take (section_length said) p.behind))).scenario
  taken_fine said p true says are = f
  taken_fine said p false says are =
      keeps (length p.line + section_length said) (takes s said (take (section_length said) p.behind))
      (line_fine s said (take (section_length said) p.behind) (line_in_place s.roster p.line said says) (λ step is. whole_step_has_line s.roster p.line step (says ∙ ap Ok is))
      (take_bytes (section_length said) p.behind are) f)

  says_fine : (p : Front) (r : Result Said LineWhy) → whole_says s.roster p.line ≡ r → list_all is_byte p.behind ≡ true → Fine (reads_line s p r go_on).scenario
  says_fine p (Err fault) says are = bad_fine fault
  says_fine p (Ok said) says are = taken_fine said p (nat_lt (length p.behind) (section_length said)) says are

  front_fine : (bytes : List ℕ) (o : Option Front) → IfSome o (λ p. list_all is_byte p.behind ≡ true) → Fine (reads_front s bytes o go_on).scenario
  front_fine bytes None are = begins_fine (nat_lt longest_line (length bytes))
  front_fine bytes (Some p) are = says_fine p (whole_says s.roster p.line) refl are

  at_fine : (d : Ending) (bytes : List ℕ) → list_all is_byte bytes ≡ true → Fine (reads_at d s bytes go_on).scenario
  at_fine Going bytes are = front_fine bytes (front bytes) (behind_bytes bytes are)
  at_fine Ended bytes are = f
  at_fine (Bad n why) bytes are = f

read_fine : (ahead : ℕ) (s : Scenario) (bytes : List ℕ) → list_all is_byte bytes ≡ true → Fine s → Fine (read ahead s bytes).scenario
unfolding read
read_fine ahead s [] are f = f
read_fine (suc ahead) s (byte ∷ bytes) are f = read_fine ahead s bytes (second_so _ _ are) f
read_fine zero s (byte ∷ bytes) are f = at_fine s f (λ n t. read n t bytes) (λ n t g. read_fine n t bytes (second_so _ _ are) g) s.ending (byte ∷ bytes) are

pub steps_have_lines : (check : Bool) (bytes : List ℕ) → list_all is_byte bytes ≡ true → have_lines (scenario_by check bytes).roster.ports (scenario_by check bytes).steps ≡ true
unfolding scenario_by
steps_have_lines check bytes are =
    let p : Progress = read 0 (opened check) bytes in
    let keeps = closes_keeps p.scenario p.line in
    ap (λ (steps : List Step). have_lines (scenario_by check bytes).roster.ports steps) keeps.1
    ∙ ap (λ (ports : List Entry). have_lines ports p.scenario.steps) (ap (λ r. r.ports) keeps.0)
    ∙ (read_fine 0 (opened check) bytes are (record { early = λ no. refl; lines = refl })).lines
