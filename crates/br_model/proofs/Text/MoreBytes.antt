-- What some bytes say stays where more bytes follow.
use Rattle.std.proofs.Common.{add-one, ◌≡◌, ℕ, zero, suc, ◌+◌, ◌≤◌, ◌==◌, Bool, true, false, if◌then◌else◌, List, [], ◌∷◌, ◌++◌, length, take, drop}
use Rattle.std.proofs.Common.{Option, None, Some, IfSome, Result, Ok, Err, refl, sym, ◌∙◌, ap, subst, arith, codes, nat_lt, append_assoc, length-append, take-append-drop}
use Rattle.std.specs.Io.{StartsWith}
use Rattle.std.specs.List.{fold}
use Rattle.std.proofs.Math.Seq.{take-append_seam}
use Rattle.std.proofs.lemmas.List.{append-nil, take-append-le, take_all}
use Rattle.std.proofs.lemmas.Bool.{ltb-false, le-ltb}
use Rattle.br_model.specs.declared.scenario.LineWhy.{LineWhy}
use Rattle.br_model.specs.declared.scenario.LineWhy.TheVariants.{Long}
use Rattle.br_model.specs.declared.scenario.Place.{Place}
use Rattle.br_model.specs.declared.scenario.Place.TheVariants.{Steps}
use Rattle.br_model.specs.declared.scenario.Said.{Said}
use Rattle.br_model.specs.declared.scenario.Said.TheVariants.{Blank, Opens, Bridge, Declares, Does, Captures, Ends}
use Rattle.br_model.specs.declared.steps.Step.{Step}
use Rattle.br_model.specs.declared.transcript.Line.{Line}
use Rattle.br_model.specs.Plane.Runs.{run, then_step}
use Rattle.br_model.specs.Plane.Steps.{world_step}
use Rattle.br_model.specs.Plane.World.{Stepped}
use Rattle.br_model.specs.Program.Runs.{body, body_of, body_parts, setup_of}
use Rattle.br_model.specs.Table.Setup.{Setup}
use Rattle.br_model.specs.Text.Roster.{Roster}
use Rattle.br_model.specs.Text.Scenario.{Scenario, Ending, Going, Ended, Bad, Front, Progress, bad, captured, closes, front, in_front}
use Rattle.br_model.specs.Text.Scenario.{longest_line, opened, read, reads_at, reads_front, reads_line, scenario, section_length, takes, takes_steps, whole_says}
use Rattle.br_model.specs.Text.Transcript.{text}
use Rattle.br_model.specs.Wire.Captures.{packets}
use Rattle.br_model.proofs.Text.Places.{FitsPlace, line_in_place}
use Rattle.br_model.proofs.Text.Reading.{closes_keeps, scenario_is}
use Rattle.br_model.proofs.Plane.Running.{run_none, text-append}
use Rattle.br_model.proofs.Plane.Worlds.{run-append}

-- a scenario's steps, and what it has declared

abbrev Kept : Type 0
Kept = List Step × Roster

abbrev kept : Scenario → Kept
kept s = (s.steps, s.roster)

-- There is no step yet, or nothing is declared any more.
data Begun (steps : List Step) (place : Place) : Type 0 where
  NoStep : steps ≡ [] → Begun steps place
  NoDeclaration : place ≡ Steps → Begun steps place

-- The second has the steps of the first, and then others. After the declarations it has declared the same.
record Stays (a b : Kept) : Type 0 where
  rest : List Step
  steps : b.0 ≡ a.0 ++ rest
  declared : a.1.place ≡ Steps → (b.1.place ≡ Steps) × (setup_of b.1 ≡ setup_of a.1)
  begun : Begun a.0 a.1.place → Begun b.0 b.1.place

same : (a : Kept) → Stays a a
same a = record { rest = []; steps = sym (append-nil a.0); declared = λ e. (e, refl); begun = λ b. b }

after : (a b c : Kept) → Stays a b → Stays b c → Stays a c
after a b c p q = record {
  rest = p.rest ++ q.rest;
  steps = q.steps ∙ ap (λ (steps : List Step). steps ++ q.rest) p.steps ∙ append_assoc a.0 p.rest q.rest;
  declared = λ e. let x = p.declared e in let y = q.declared x.0 in (y.0, y.1 ∙ x.1);
  begun = λ b. q.begun (p.begun b);
}

-- a line

-- without a step
no_more : (steps : List Step) (place : Place) → Begun steps place → Begun (steps ++ []) place
no_more steps place b = subst (λ (s : List Step). Begun s place) (sym (append-nil steps)) b

elsewhere : (steps : List Step) (place place' : Place) → (place ≡ Steps → ⊥) → Begun steps place → Begun (steps ++ []) place'
elsewhere steps place place' other (NoStep e) = NoStep (append-nil steps ∙ e)
elsewhere steps place place' other (NoDeclaration e) = absurd (other e)

section_stays : (s : Scenario) (n : ℕ) (r : Result (List Step) LineWhy) → Stays (kept s) (kept (takes_steps s (Captures n) r))
section_stays s n (Err fault) = same (kept s)
section_stays s n (Ok steps) = record {
  rest = steps;
  steps = refl;
  declared = λ e. (refl, refl);
  begun = λ b. NoDeclaration refl;
}

line_stays : (s : Scenario) (said : Said) (section : List ℕ) → FitsPlace s.roster.place said → Stays (kept s) (kept (takes s said section))
line_stays s Blank section fits = record { rest = []; steps = refl; declared = λ e. (e, refl); begun = no_more s.steps s.roster.place }
line_stays s (Opens edition) section fits = record { rest = []; steps = refl; declared = λ e. absurd (fits e); begun = elsewhere s.steps s.roster.place _ fits }
line_stays s (Bridge mac) section fits = record { rest = []; steps = refl; declared = λ e. absurd (fits e); begun = elsewhere s.steps s.roster.place _ fits }
line_stays s (Declares port name dom) section fits = record { rest = []; steps = refl; declared = λ e. absurd (fits e); begun = elsewhere s.steps s.roster.place _ fits }
line_stays s (Does step) section fits = record { rest = step ∷ []; steps = refl; declared = λ e. (refl, refl); begun = λ b. NoDeclaration refl }
line_stays s (Captures n) section fits = section_stays s n (captured s.roster.ports (packets section (length s.roster.ports)))
line_stays s Ends section fits = record { rest = []; steps = refl; declared = λ e. (e, refl); begun = no_more s.steps s.roster.place }

-- all lines

-- how reading goes on, and what stays then
abbrev GoesOn : Type 0
GoesOn = ℕ → Scenario → Progress

abbrev Keeps : GoesOn → Type 0
Keeps go_on = (n : ℕ) (t : Scenario) → Stays (kept t) (kept (go_on n t).scenario)

begins_stays : (s : Scenario) (b : Bool) → Stays (kept s) (kept (if b then bad s Long else s))
begins_stays s true = same (kept s)
begins_stays s false = same (kept s)

-- a line that says this, whose section isn't whole, or is
abbrev taken : Scenario → Said → Front → GoesOn → Bool → Progress
taken s said f go_on b =
    if b then record { scenario = s; line = []; behind = [] } else go_on (length f.line + section_length said) (takes s said (take (section_length said) f.behind))

taken_stays : (s : Scenario) (said : Said) (f : Front) (go_on : GoesOn) (b : Bool) → whole_says s.roster f.line ≡ Ok said → Keeps go_on → Stays (kept s) (kept (taken s said f go_on b).scenario)
taken_stays s said f go_on true says keeps = same (kept s)
taken_stays s said f go_on false says keeps =
    let t : Scenario = takes s said (take (section_length said) f.behind) in
    after (kept s) (kept t) _ (line_stays s said _ (line_in_place s.roster f.line said says)) (keeps _ t)

says_stays : (s : Scenario) (f : Front) (go_on : GoesOn) (r : Result Said LineWhy) → whole_says s.roster f.line ≡ r → Keeps go_on → Stays (kept s) (kept (reads_line s f r go_on).scenario)
says_stays s f go_on (Err fault) says keeps = same (kept s)
says_stays s f go_on (Ok said) says keeps = taken_stays s said f go_on (nat_lt (length f.behind) (section_length said)) says keeps

front_stays : (s : Scenario) (bytes : List ℕ) (go_on : GoesOn) (f : Option Front) → Keeps go_on → Stays (kept s) (kept (reads_front s bytes f go_on).scenario)
front_stays s bytes go_on None keeps = begins_stays s (nat_lt longest_line (length bytes))
front_stays s bytes go_on (Some f) keeps = says_stays s f go_on (whole_says s.roster f.line) refl keeps

at_stays : (d : Ending) (s : Scenario) (bytes : List ℕ) (go_on : GoesOn) → Keeps go_on → Stays (kept s) (kept (reads_at d s bytes go_on).scenario)
at_stays Going s bytes go_on keeps = front_stays s bytes go_on (front bytes) keeps
at_stays Ended s bytes go_on keeps = same (kept s)
at_stays (Bad n why) s bytes go_on keeps = same (kept s)

read_stays : (ahead : ℕ) (s : Scenario) (bytes : List ℕ) → Stays (kept s) (kept (read ahead s bytes).scenario)
unfolding read
read_stays ahead s [] = same (kept s)
read_stays (suc ahead) s (byte ∷ bytes) = read_stays ahead s bytes
read_stays zero s (byte ∷ bytes) = at_stays s.ending s (byte ∷ bytes) (λ n t. read n t bytes) (λ n t. read_stays n t bytes)

-- more bytes

-- a line that has its line feed is the same
abbrev pub Grows : Option Front → Option Front → List ℕ → Type 0
Grows o whole more = IfSome o (λ f. whole ≡ Some (record { line = f.line; behind = f.behind ++ more }))

pub byte_grows : (b : Bool) (byte : ℕ) (bytes more : List ℕ) (o whole : Option Front) → Grows o whole more
    → Grows (if b then Some (record { line = []; behind = bytes }) else in_front byte o) (if b then Some (record { line = []; behind = bytes ++ more }) else in_front byte whole) more
byte_grows true byte bytes more o whole h = refl
byte_grows false byte bytes more None whole h = tt
byte_grows false byte bytes more (Some f) whole h = ap (in_front byte) h

pub front_grows : (bytes more : List ℕ) → Grows (front bytes) (front (bytes ++ more)) more
unfolding front
front_grows [] more = tt
front_grows (byte ∷ bytes) more = byte_grows (byte == 10) byte bytes more (front bytes) (front (bytes ++ more)) (front_grows bytes more)

module _ (s : Scenario) (more : List ℕ) (go_on go_on' : GoesOn) (keeps : Keeps go_on') (both : (n : ℕ) (t : Scenario) → Stays (kept (go_on n t).scenario) (kept (go_on' n t).scenario)) where
  abbrev with_more : Front → Front
  with_more f = record { line = f.line; behind = f.behind ++ more }

  -- the line with its section was there already, or it wasn't
  taken_more : (said : Said) (f : Front) (b : Bool) → whole_says s.roster f.line ≡ Ok said → nat_lt (length f.behind) (section_length said) ≡ b
      → Stays (kept (taken s said f go_on b).scenario) (kept (reads_line s (with_more f) (Ok said) go_on').scenario)
  taken_more said f true says short = says_stays s (with_more f) go_on' (Ok said) says keeps
  taken_more said f false says whole =
      let n : ℕ = section_length said in
      let k : ℕ = length f.line + n in
      let fits : n ≤ length f.behind = ltb-false (length f.behind) n whole in
      let t : Scenario = takes s said (take n f.behind) in
      subst (λ (p : Progress). Stays (kept (go_on k t).scenario) (kept p.scenario)) (sym (
      ap (taken s said (with_more f) go_on') (le-ltb (length (f.behind ++ more)) n (omega (arith, fits, length-append f.behind more)))
      ∙ ap (λ (part : List ℕ). go_on' k (takes s said part)) (take-append-le n f.behind more fits)
      )) (both k t)

  says_more : (f : Front) (r : Result Said LineWhy) → whole_says s.roster f.line ≡ r → Stays (kept (reads_line s f r go_on).scenario) (kept (reads_line s (with_more f) r go_on').scenario)
  says_more f (Err fault) says = same (kept s)
  says_more f (Ok said) says = taken_more said f (nat_lt (length f.behind) (section_length said)) says refl

  begun_by : (b : Bool) (x : Kept) → Stays (kept s) x → Stays (kept (if b then bad s Long else s)) x
  begun_by true x h = h
  begun_by false x h = h

  front_more : (bytes : List ℕ) (o whole : Option Front) → Grows o whole more → Stays (kept (reads_front s bytes o go_on).scenario) (kept (reads_front s (bytes ++ more) whole go_on').scenario)
  front_more bytes None whole h = begun_by (nat_lt longest_line (length bytes)) _ (front_stays s (bytes ++ more) go_on' whole keeps)
  front_more bytes (Some f) whole h =
      subst (λ (o : Option Front). Stays (kept (reads_front s bytes (Some f) go_on).scenario) (kept (reads_front s (bytes ++ more) o go_on').scenario)) (sym h)
      (says_more f (whole_says s.roster f.line) refl)

  at_more : (d : Ending) (bytes : List ℕ) → Stays (kept (reads_at d s bytes go_on).scenario) (kept (reads_at d s (bytes ++ more) go_on').scenario)
  at_more Going bytes = front_more bytes (front bytes) (front (bytes ++ more)) (front_grows bytes more)
  at_more Ended bytes = same (kept s)
  at_more (Bad n why) bytes = same (kept s)

read_more : (ahead : ℕ) (s : Scenario) (bytes more : List ℕ) → Stays (kept (read ahead s bytes).scenario) (kept (read ahead s (bytes ++ more)).scenario)
unfolding read
read_more ahead s [] more = read_stays ahead s more
read_more (suc ahead) s (byte ∷ bytes) more = read_more ahead s bytes more
read_more zero s (byte ∷ bytes) more =
    at_more s more (λ n t. read n t bytes) (λ n t. read n t (bytes ++ more)) (λ n t. read_stays n t (bytes ++ more)) (λ n t. read_more n t bytes more)
    s.ending (byte ∷ bytes)

-- the bytes' end adds nothing
closes_kept : (s : Scenario) (line : List ℕ) → kept (closes s line) ≡ kept s
closes_kept s line =
    let h = closes_keeps s line in
    ap (λ (steps : List Step). (steps, (closes s line).roster)) h.1 ∙ ap (λ (roster : Roster). (s.steps, roster)) h.0

scenario_kept : (bytes : List ℕ) → kept (scenario bytes) ≡ kept (read 0 (opened false) bytes).scenario
scenario_kept bytes =
    let p : Progress = read 0 (opened false) bytes in
    ap kept (scenario_is bytes) ∙ closes_kept p.scenario p.line

scenario_stays : (bytes more : List ℕ) → Stays (kept (scenario bytes)) (kept (scenario (bytes ++ more)))
scenario_stays bytes more =
    subst (λ (x : Kept). Stays x (kept (scenario (bytes ++ more)))) (sym (scenario_kept bytes))
    (subst (Stays (kept (read 0 (opened false) bytes).scenario)) (sym (scenario_kept (bytes ++ more))) (read_more 0 (opened false) bytes more))

scenario_begun : (bytes : List ℕ) → Begun (scenario bytes).steps (scenario bytes).roster.place
scenario_begun bytes =
    subst (λ (x : Kept). Begun x.0 x.1.place) (sym (scenario_kept bytes)) ((read_stays 0 (opened false) bytes).begun (NoStep refl))

-- the runs of their steps

lines_more : (x : Stepped) (steps : List Step) → (more : List Line) × ((fold then_step x steps).1 ≡ x.1 ++ more)
lines_more x [] = ([], sym (append-nil x.1))
lines_more x (step ∷ steps) =
    let new : List Line = (world_step x.0 step).1 in
    let r = lines_more (then_step x step) steps in
    (new ++ r.0, r.1 ∙ append_assoc x.1 new r.0)

body_more : (setup : Setup) (steps more : List Step) → (rest : List ℕ) × (body_of (run setup (steps ++ more)) ≡ body_of (run setup steps) ++ rest)
body_more setup steps more =
    let r = lines_more (run setup steps) more in (
      text r.0,
      ap body_of (run-append setup steps more)
          ∙ ap (λ (lines : List Line). codes "transcript 1" ++ 10 ∷ text lines) r.1
          ∙ ap (λ (b : List ℕ). codes "transcript 1" ++ 10 ∷ b) (text-append (run setup steps).1 r.0),
    )

-- whatever was declared, without a step only the first line is told
first_line : (setup : Setup) → body_of (run setup []) ≡ codes "transcript 1" ++ 10 ∷ []
first_line setup = ap body_of (run_none setup)

-- the first steps of both are told alike
first_steps : (a b : Kept) (n : ℕ) → Stays a b → Begun a.0 a.1.place → n ≤ length a.0
    → body_of (run (setup_of b.1) (take n b.0)) ≡ body_of (run (setup_of a.1) (take n a.0))
first_steps a b n h (NoStep none) few =
    let zero_is : n ≡ 0 = omega (arith, few, ap length none) in
    ap (λ k. body_of (run (setup_of b.1) (take k b.0))) zero_is ∙ first_line (setup_of b.1)
    ∙ sym (ap (λ k. body_of (run (setup_of a.1) (take k a.0))) zero_is ∙ first_line (setup_of a.1))
first_steps a b n h (NoDeclaration place) few =
    ap (λ (setup : Setup). body_of (run setup (take n b.0))) (h.declared place).1
    ∙ ap (λ (steps : List Step). body_of (run (setup_of a.1) steps)) (ap (take n) h.steps ∙ take-append-le n a.0 h.rest few)

all_steps : (a b : Kept) → Stays a b → Begun a.0 a.1.place → (rest : List ℕ) × (body_of (run (setup_of b.1) b.0) ≡ body_of (run (setup_of a.1) a.0) ++ rest)
all_steps a b h (NoStep none) =
    let r = body_more (setup_of b.1) [] b.0 in (
      r.0,
      r.1
          ∙ ap (λ (x : List ℕ). x ++ r.0) (first_line (setup_of b.1) ∙ sym (ap (λ (steps : List Step). body_of (run (setup_of a.1) steps)) none ∙ first_line (setup_of a.1))),
    )
all_steps a b h (NoDeclaration place) =
    let r = body_more (setup_of a.1) a.0 h.rest in (
      r.0,
      ap (λ (setup : Setup). body_of (run setup b.0)) (h.declared place).1 ∙ ap (λ (steps : List Step). body_of (run (setup_of a.1) steps)) h.steps ∙ r.1,
    )

begins_with : (whole front rest : List ℕ) → whole ≡ front ++ rest → StartsWith whole front
begins_with whole front rest is = ap (take (length front)) is ∙ take-append_seam front rest

pub body_front : (bytes more : List ℕ) → StartsWith (body (bytes ++ more)) (body bytes)
unfolding body
body_front bytes more =
    let r = all_steps (kept (scenario bytes)) (kept (scenario (bytes ++ more))) (scenario_stays bytes more) (scenario_begun bytes) in begins_with _ _ r.0 r.1

pub parts_front : (n : ℕ) (bytes : List ℕ) → StartsWith (body bytes) (body_parts n bytes)
unfolding body body_parts
parts_front zero bytes = refl
parts_front (suc n) bytes =
    let s : Scenario = scenario bytes in
    let setup : Setup = setup_of s.roster in
    let r = body_more setup (take n s.steps) (drop n s.steps) in
    begins_with _ _ r.0 (ap (λ (steps : List Step). body_of (run setup steps)) (sym (take-append-drop n s.steps)) ∙ r.1)

pub parts_stay : (n : ℕ) (bytes more : List ℕ) → n ≤ length (scenario bytes).steps + 1 → body_parts n (bytes ++ more) ≡ body_parts n bytes
unfolding body_parts
parts_stay zero bytes more few = refl
parts_stay (suc n) bytes more few =
    first_steps (kept (scenario bytes)) (kept (scenario (bytes ++ more))) n (scenario_stays bytes more) (scenario_begun bytes) (omega (arith, few))

pub all_parts : (bytes : List ℕ) → body_parts (length (scenario bytes).steps + 1) bytes ≡ body bytes
unfolding body body_parts
all_parts bytes =
    let s : Scenario = scenario bytes in
    ap (λ n. body_parts n bytes) (add-one (length s.steps)) ∙ ap (λ (steps : List Step). body_of (run (setup_of s.roster) steps)) (take_all (length s.steps) s.steps (omega arith))
