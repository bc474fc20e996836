-- What is read for a run by workers, and what they give.
use Rattle.std.proofs.Common.{◌≡◌, ℕ, suc, ◌<◌, ◌≤◌, ◌==◌, nat_le, Bool, true, false, not, ◌||◌, List, [], ◌∷◌, ◌++◌, length, get_or, refl, sym, ◌∙◌, ap, ap₂, subst, arith}
use Rattle.std.specs.Prelude.{codes}
use Rattle.std.specs.Cmp.{first_so, second_so}
use Rattle.std.specs.Io.KnownBytes.{Consumes, IsAtEnd}
use Rattle.std.specs.List.{list_all, list_any}
use Rattle.std.specs.Option.{is_some}
use Rattle.std.specs.declared.option.Option.{Option}
use Rattle.std.specs.declared.option.Option.TheVariants.{None, Some}
use Rattle.std.specs.declared.result.Result.{Result}
use Rattle.std.specs.declared.result.Result.TheVariants.{Err}
use Rattle.std.proofs.lemmas.Bool.{false≢true, true≢false, and_from, lt-ltb}
use Rattle.br_model.specs.declared.scenario.LineWhy.{LineWhy}
use Rattle.br_model.specs.declared.steps.Step.{Step}
use Rattle.br_model.specs.declared.steps.Step.TheVariants.{Serve, Hold, Post, Turn, Report, Publish}
use Rattle.br_model.specs.declared.transcript.Line.{Line}
use Rattle.br_model.specs.Program.LiveRun.{is_live_run}
use Rattle.br_model.specs.Program.LiveText.{live_text, steps_scenario}
use Rattle.br_model.specs.Program.Outcomes.{GoesOn, scenario_lines}
use Rattle.br_model.specs.Program.Runs.{bad_alone, bad_told, body, setup_of}
use Rattle.br_model.specs.Plane.Runs.{end_line, run}
use Rattle.br_model.specs.Table.Domains.{Domains, chip_domains}
use Rattle.br_model.specs.Table.Limits.{most_live_bytes}
use Rattle.br_model.specs.Table.Setup.{Setup}
use Rattle.br_model.specs.Text.Declarations.{are_declared}
use Rattle.br_model.specs.Text.Forms.{Form, Token, Fixed, Has, Values, all_values}
use Rattle.br_model.specs.Text.LineForms.{comes_by_line, step_form}
use Rattle.br_model.specs.Text.Operands.{Operand, Number, Chip, NewPort, NewName, PortNumber, PortName, Device, Station, GroupAddress, Hex, Flag, Value, in_range, is_byte, is_known}
use Rattle.br_model.specs.Text.Roster.{Entry, Roster, chips_of, domains_of}
use Rattle.br_model.specs.Text.Scenario.{Scenario, Ended, opened, reads, scenario}
use Rattle.br_model.specs.Text.ScenarioText.{fits_in, has_line, knows_in, names_declared}
use Rattle.br_model.specs.Text.Transcript.{bad_text, line_text, text}
use Rattle.br_model.proofs.Program.AllLeft.{below_limit, same_at_end}
use Rattle.br_model.proofs.Text.DeclaredChips.{declared-chips}
use Rattle.br_model.proofs.Text.Endings.{has_ended}
use Rattle.live_workers.specs.Results.{is_taken}
use Rattle.scenario_reader.specs.declared.reader.Last.{Last}
use Rattle.scenario_reader.specs.declared.reader.Last.TheVariants as lasts
use Rattle.scenario_reader.specs.Reading.{ending_of}
use Rattle.scenario_reader.specs.Whole.{SaysWhole, WholeState, ending_or_going}
use Rattle.scenario_reader.proofs.ScenarioLines.{steps_have_lines}
use Rattle.run_status.specs.declared.stop.Stop.{Stop}
use Rattle.run_status.specs.declared.stop.Stop.TheVariants as stops
use Rattle.capture_runner.specs.Living.{AnsweredLive, IsLiveText, IsRead, ReadsLive, is_numbered}
use Rattle.scenario_runner.specs.Playing.{Below, Filled}
use Rattle.capture_runner.proofs.EndedStays.{within_of_ended, whole_of_ended}

-- steps that have lines name declared ports

known_of : (ports : List Entry) (o : Operand) (value : Value o) → in_range ports o value ≡ true → is_known ports o value ≡ true
known_of ports (Number low high) n h = refl
known_of ports Chip dom h = refl
known_of ports NewPort port h = refl
known_of ports NewName name h = refl
known_of ports PortNumber port h = h
known_of ports PortName port h = h
known_of ports Device port h = h
known_of ports Station a h = refl
known_of ports GroupAddress a h = refl
known_of ports Hex bytes h = refl
known_of ports Flag f h = refl

all_known : (ports : List Entry) (ts : List Token) (values : Values ts) → all_values (in_range ports) ts values ≡ true → all_values (is_known ports) ts values ≡ true
all_known ports [] values h = refl
all_known ports (Fixed w ∷ ts) values h = all_known ports ts values h
all_known ports (Has o ∷ ts) values h = and_from _ _ (known_of ports o values.0 (first_so (in_range ports o values.0) _ h)) (all_known ports ts values.1 (second_so (in_range ports o values.0) _ h))

form_known : (ports : List Entry) (f : Option Form) → fits_in ports f ≡ true → knows_in ports f ≡ true
form_known ports None h = h
form_known ports (Some f) h = all_known ports f.shape f.values h

pub all_named : (ports : List Entry) (steps : List Step) → list_all (has_line ports) steps ≡ true → list_all (names_declared ports) steps ≡ true
all_named ports [] h = refl
all_named ports (s ∷ steps) h = and_from _ _ (form_known ports (step_form s) (first_so (has_line ports s) _ h)) (all_named ports steps (second_so (has_line ports s) _ h))

-- the steps that workers took have lines, since those that they were given have

least : (n : ℕ) → nat_le 0 n ≡ true
least n = grind arith

lined : (ports : List Entry) (chips : List ℕ) (s : Step) → chips ≡ chips_of ports → comes_by_line true chips s ≡ true → (not (is_taken s) || has_line ports s) ≡ true → is_numbered s ≡ true
    → has_line ports s ≡ true
lined ports chips Serve are comes given number = refl
lined ports chips Hold are comes given number = refl
lined ports chips (Post id None) are comes given number = and_from _ true (and_from _ _ (least id) number) refl
lined ports chips (Post id (Some point)) are comes given number =
    and_from _ _ (and_from _ _ (least id) (first_so _ _ number)) (and_from _ true (and_from _ _ (least point) (second_so (nat_le id 4294967295) _ number)) refl)
lined ports chips (Turn dom) are comes given number = and_from _ true (ap (λ (l : List ℕ). list_any (λ d. d == dom) l) (sym are) ∙ comes) refl
lined ports chips (Report dom) are comes given number = and_from _ true (ap (λ (l : List ℕ). list_any (λ d. d == dom) l) (sym are) ∙ comes) refl
lined ports chips Publish are comes given number = refl
lined ports chips s are comes given number = given

pub all_lined : (ports : List Entry) (chips : List ℕ) (steps : List Step) → chips ≡ chips_of ports → list_all (comes_by_line true chips) steps ≡ true
    → list_all (λ s. not (is_taken s) || has_line ports s) steps ≡ true → list_all is_numbered steps ≡ true → list_all (has_line ports) steps ≡ true
all_lined ports chips [] are comes given numbers = refl
all_lined ports chips (s ∷ steps) are comes given numbers =
    and_from _ _ (lined ports chips s are (first_so _ _ comes) (first_so (not (is_taken s) || has_line ports s) _ given) (first_so (is_numbered s) _ numbers))
    (all_lined ports chips steps are (second_so _ _ comes) (second_so (not (is_taken s) || has_line ports s) _ given) (second_so (is_numbered s) _ numbers))

-- bytes are bytes
pub are_bytes : (bytes : List ℕ) → ((i : ℕ) → get_or bytes i 0 < 256) → list_all is_byte bytes ≡ true
are_bytes [] h = refl
are_bytes (b ∷ bytes) h = and_from _ _ (lt-ltb b 256 (h 0)) (are_bytes bytes (λ i. h (suc i)))

-- what was read

ends_so : (l : Last) → has_ended (ending_of l) ≡ true
ends_so lasts.Ended = refl
ends_so (lasts.Bad n why) = refl

module _ (left now : Option (List ℕ)) (input : List ℕ) (x : WholeState) (read : Consumes left now input) (says : SaysWhole false input x) (lines : x.close ≡ lasts.Ended
    → list_all (has_line x.roster.ports) x.steps ≡ true) where
  -- the bytes have ended the scenario
  pub read_ended : (last : Last) → x.last ≡ Some last → length input ≤ most_live_bytes → IsRead left now x
  read_ended last is few =
      let e : has_ended (reads (opened false) input).ending ≡ true = ap has_ended (says.last ∙ ap ending_or_going is) ∙ ends_so last in
      record { input = input; read = read; says = says; lines = lines; whole = whole_of_ended left now input read e; within = within_of_ended most_live_bytes left now input read few e }

  pub read_some : (o : Option Last) → o ≡ x.last → is_some o ≡ true → length input ≤ most_live_bytes → IsRead left now x
  read_some None is some few = absurd (false≢true some)
  read_some (Some last) is some few = read_ended last (sym is) few

  -- they were all that there was
  pub read_all : IsAtEnd now → length input < most_live_bytes → IsRead left now x
  read_all none few =
      record {
        input = input;
        read = read;
        says = says;
        lines = lines;
        whole = same_at_end scenario left now input read none;
        within = below_limit scenario_lines most_live_bytes left now input read none few;
      }

  -- the scenario goes on
  pub goes_on : x.last ≡ None → GoesOn scenario_lines input
  goes_on is = says.last ∙ ap ending_or_going is

  pub stops_below : x.last ≡ None → length input < most_live_bytes → (t : List ℕ) × Below left most_live_bytes now t
  stops_below is few = (body input, record { stops = record { input = input; read = read; going = goes_on is; told = refl }; below = few })

  pub stops_full : x.last ≡ None → length input ≡ most_live_bytes → (t : List ℕ) × Filled left most_live_bytes now t
  stops_full is full = (body input, record { stops = record { input = input; read = read; going = goes_on is; told = refl }; full = full })

-- they haven't
pub reads_on : (x : WholeState) (o : Option Last) → o ≡ x.last → is_some o ≡ false → x.last ≡ None
reads_on x None is none = sym is
reads_on x (Some last) is none = absurd (true≢false none)

-- what is written of it

module _ (left now : Option (List ℕ)) (x : WholeState) (p : IsRead left now x) (out : List ℕ) where
  pub lived : x.close ≡ lasts.Ended → IsLiveText x.roster x.steps out → AnsweredLive left now out lasts.Ended
  lived is h =
      let roster : (scenario p.input).roster ≡ x.roster = sym (p.says.roster is) in
      let t = h (scenario p.input) roster (sym p.says.steps) in
      record {
        input = p.input;
        read = p.read;
        ends = p.says.close ∙ ap ending_of is;
        steps = t.0;
        live = t.1;
        written = ap (λ (r : Roster). list_all (has_line r.ports) t.0) roster ∙ t.2;
        text_is = t.3;
        whole = p.whole;
        within = p.within;
      }

  pub told_bad : (n : ℕ) (why : LineWhy) → x.close ≡ lasts.Bad n why → out ≡ bad_text n why → AnsweredLive left now out (lasts.Bad n why)
  unfolding bad_told
  told_bad n why is h = record {
    input = p.input;
    read = p.read;
    ends = p.says.close ∙ ap ending_of is;
    text_is = h ∙ sym (ap bad_alone (p.says.close ∙ ap ending_of is));
    whole = p.whole;
    within = p.within;
  }

-- the transcript of the steps
pub told_so : (sc : Scenario) (roster : Roster) (setup : Setup) (steps : List Step) (out : List ℕ) → sc.roster ≡ roster → setup ≡ setup_of roster
    → out ≡ steps_scenario roster steps ++ (codes "transcript 1" ++ 10 ∷ (text (run setup steps).1 ++ line_text (end_line (run setup steps).0)))
    → out ≡ live_text sc steps
told_so sc roster setup steps out is setup_is h =
    h
    ∙ ap (λ (u : Setup). steps_scenario roster steps ++ (codes "transcript 1" ++ 10 ∷ (text (run u steps).1 ++ line_text (end_line (run u steps).0)))) setup_is
    ∙ ap (λ (q : Roster). steps_scenario q steps ++ (codes "transcript 1" ++ 10 ∷ (text (run (setup_of q) steps).1 ++ line_text (end_line (run (setup_of q) steps).0)))) (sym is)

-- memory lacks while it is read
pub reads_lacking : (left now : Option (List ℕ)) (input : List ℕ) → Consumes left now input → (r : Result WholeState Stop) → r ≡ Err stops.NoMemory → ReadsLive left now r
reads_lacking left now input read r is = subst (λ (r : Result WholeState Stop). ReadsLive left now r) (sym is) (input, read)

-- what a scenario that ends well says has lines
pub lines_of_whole : (bytes : List ℕ) (x : WholeState) → SaysWhole false bytes x → list_all is_byte bytes ≡ true → x.close ≡ lasts.Ended → list_all (has_line x.roster.ports) x.steps ≡ true
lines_of_whole bytes x says are is =
    ap (λ (r : Roster). list_all (has_line r.ports) x.steps) (says.roster is)
    ∙ ap (λ (steps : List Step). list_all (has_line (scenario bytes).roster.ports) steps) says.steps
    ∙ steps_have_lines false bytes are

-- what workers take of a scenario

module _ (roster : Roster) (domains : Domains) (own : ℕ) (steps : List Step) (same : domains ≡ domains_of roster.edition roster.ports) (its : own ≡ roster.own)
    (all : are_declared roster.ports ≡ true) where
  abbrev setup : Setup
  setup = record { domains = domains; own = own }

  setup_is : setup_of roster ≡ setup
  setup_is = ap₂ (λ (d : Domains) (o : ℕ). record { domains = d; own = o }) (sym same) (sym its)

  chips_are : chip_domains domains ≡ chips_of roster.ports
  chips_are = ap chip_domains same ∙ declared-chips roster.edition roster.ports all

  -- lines can give them
  pub comes_so : (given : List Step) → given ≡ steps → list_all (comes_by_line false (chips_of roster.ports)) steps ≡ true → list_all (comes_by_line false (chip_domains domains)) given ≡ true
  comes_so given is h = ap (list_all (comes_by_line false (chip_domains domains))) is ∙ ap (λ (chips : List ℕ). list_all (comes_by_line false chips) steps) chips_are ∙ h

  module _ (given taken : List Step) (is : given ≡ steps) where
    -- and those that were taken
    pub lines_taken : list_all (has_line roster.ports) steps ≡ true → list_all (comes_by_line true (chip_domains domains)) taken ≡ true
        → ((sc : Scenario) → setup_of sc.roster ≡ setup → sc.steps ≡ given → (p : Step → Bool) → list_all p given ≡ true → list_all (λ s. not (is_taken s) || p s) taken ≡ true)
        → list_all is_numbered taken ≡ true → list_all (has_line roster.ports) taken ≡ true
    lines_taken lines by_line keeps numbers =
        let sc : Scenario = record { lines = 0; roster = roster; steps = steps; ending = Ended } in
        all_lined roster.ports (chip_domains domains) taken chips_are by_line (keeps sc setup_is (sym is) (has_line roster.ports) (ap (list_all (has_line roster.ports)) is ∙ lines)) numbers

    -- their text
    pub text_taken : (out : List ℕ) (told : List Line) (end : Line) → list_all (has_line roster.ports) taken ≡ true
        → ((sc : Scenario) → setup_of sc.roster ≡ setup → sc.steps ≡ given → is_live_run taken sc ≡ true) → told ≡ (run setup taken).1 → end ≡ end_line (run setup taken).0
        → out ≡ steps_scenario roster taken ++ (codes "transcript 1" ++ 10 ∷ (text told ++ line_text end)) → IsLiveText roster steps out
    text_taken out told end lines live told_is end_is h =
        let out_is : out ≡ steps_scenario roster taken ++ (codes "transcript 1" ++ 10 ∷ (text (run setup taken).1 ++ line_text (end_line (run setup taken).0))) =
        h ∙ ap₂ (λ (l : List Line) (e : Line). steps_scenario roster taken ++ (codes "transcript 1" ++ 10 ∷ (text l ++ line_text e))) told_is end_is in
        λ sc r s. (taken, live sc (ap setup_of r ∙ setup_is) (s ∙ sym is), lines, told_so sc roster setup taken out r (sym setup_is) out_is)
