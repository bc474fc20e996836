-- A line of a scenario is read, with its section, and what is told of it.
use Rattle.std.proofs.Common.{◌≡◌, ℕ, ◌+◌, ◌-◌, ◌<◌, ◌≤◌, true, false, List, [], ◌∷◌, ◌++◌, length, drop, take, Option, Result, Ok, Err, Vec, refl, sym, ◌∙◌, ap, subst, string_bytes}
use Rattle.std.proofs.Common.{arith, length-drop}
use Rattle.std.specs.declared.alloc.Global.{Global}
use Rattle.std.specs.List.{list_all}
use Rattle.std.proofs.lemmas.List.{append-nil, take-append-drop, take_all}
use Rattle.br_model.specs.declared.scenario.LineWhy.{LineWhy}
use Rattle.br_model.specs.declared.scenario.LineWhy.TheVariants.{Long, Unended}
use Rattle.br_model.specs.declared.scenario.Place.TheVariants as places
use Rattle.br_model.specs.declared.scenario.Said.{Said}
use Rattle.br_model.specs.declared.scenario.Said.TheVariants as said
use Rattle.br_model.specs.declared.steps.Step.{Step}
use Rattle.br_model.specs.Plane.World.{World}
use Rattle.br_model.specs.Text.LineForms.{comes_by_line}
use Rattle.br_model.specs.Text.Operands.{longest_section}
use Rattle.br_model.specs.Text.Roster.{Roster, chips_of}
use Rattle.br_model.specs.Text.Scenario.{Scenario, Ending, Going, Progress, bad, captured, closes, closes_at, longest_line, opened, read, reads, scenario, takes, takes_steps, whole_says}
use Rattle.br_model.specs.Theorems.WholeLines.{is_line}
use Rattle.br_model.specs.Wire.Captures.{packets}
use Rattle.br_model.proofs.Text.Endings.{closes_ended, has_ended, read_ended}
use Rattle.br_model.proofs.Text.Reading.{closes_keeps, read_bad, read_line, read_long, read_part, read_rest, scenario_is}
use Rattle.scenario_reader.specs.declared.reader.Captured.{Captured as Gave}
use Rattle.scenario_reader.specs.declared.reader.Captured.TheVariants as sections
use Rattle.scenario_reader.specs.declared.reader.Last.{Last}
use Rattle.scenario_reader.specs.declared.reader.Last.TheVariants as lasts
use Rattle.scenario_reader.specs.declared.reader.Next.{Next}
use Rattle.scenario_reader.specs.declared.reader.Next.TheVariants as nexts
use Rattle.scenario_reader.specs.Reading.{EndsBy, Follows, IsBehindDeclarations, IsCaptured, KeepsSetup, ReaderState, Takes, Took, ending_of}
use Rattle.scenario_play.specs.Playing.{Played, AtSection, Does, DoesAll, EndsIn, Fits, GoesOn, IsOver, IsReady, IsSteady, IsTold, ReadsOn, Stands, closing, with_steps}
use Rattle.scenario_play.specs.Stages.{Standing}
use Rattle.scenario_play.proofs.Steps.{among, among_stands, does_one, fits_at, kept, moved, ready_at, steady_of}

-- how it ends

pub over_at : (given : List ℕ) (s t : Scenario) (w : Standing) (all : List ℕ) (last : Last) → s ≡ t → IsOver given t w all last → IsOver given s w all last
over_at given s t w all last is h = subst (λ (u : Scenario). IsOver given u w all last) (sym is) h

pub has_ended_by : (last : Last) → has_ended (ending_of last) ≡ true
has_ended_by lasts.Ended = refl
has_ended_by (lasts.Bad n why) = refl

-- what has ended ends so, whatever is left of a line
pub closes_over : (given : List ℕ) (p : Progress) (w : Standing) (all : List ℕ) (last : Last) → IsOver given p.scenario w all last → IsOver given (closing p) w all last
closes_over given p w all last h = over_at given (closing p) p.scenario w all last (closes_ended p.scenario p.line (ap has_ended h.ends ∙ has_ended_by last)) h

pub bad_over : (given : List ℕ) (s : Scenario) (why : LineWhy) (w : Standing) (all : List ℕ) (last : Last) → last ≡ lasts.Bad (s.lines + 1) why → IsTold given s w all
    → IsOver given (bad s why) w all last
bad_over given s why w all last is h = record { ends = ap ending_of (sym is); so = moved given s (bad s why) w all refl (kept s.roster) h }

module _ (given : List ℕ) (s : Scenario) (x : Played) (h : Stands given s x) where
  too_long : (last : Last) → last ≡ lasts.Bad (x.reader.lines + 1) Long → last ≡ lasts.Bad (s.lines + 1) Long
  too_long last is = is ∙ ap (λ n. lasts.Bad (n + 1) Long) h.follows.lines

  -- in a line that is too long
  pub line_too_long : (line : List ℕ) (last : Last) → is_line line ≡ true → longest_line < length line → last ≡ lasts.Bad (x.reader.lines + 1) Long
      → EndsIn given s (λ more. line ++ more) x last
  line_too_long line last feed long is =
      record {
        scenario = bad s Long;
        reads_so = λ more. read_long s line more h.follows.going feed long;
        ports = ap (λ (r : Roster). r.ports) h.follows.roster;
        over = bad_over given s Long x.stage x.text last (too_long last is) h.so;
      }

  -- with what is behind it
  pub whole_line_too_long : (line : List ℕ) (last : Last) → is_line line ≡ true → longest_line < length line → last ≡ lasts.Bad (x.reader.lines + 1) Long
      → EndsIn given s (λ more. line ++ 10 ∷ more) x last
  whole_line_too_long line last feed long is =
      let k = line_too_long line last feed long is in record { scenario = k.scenario; reads_so = λ more. k.reads_so (10 ∷ more); ports = k.ports; over = k.over }

  -- where the bytes end
  pub rest_too_long : (rest : List ℕ) (last : Last) → is_line rest ≡ true → longest_line < length rest → last ≡ lasts.Bad (x.reader.lines + 1) Long
      → IsOver given (closing (read 0 s rest)) x.stage x.text last
  rest_too_long rest last feed long is =
      let k = line_too_long rest last feed long is in
      closes_over given (read 0 s rest) x.stage x.text last
      (subst (λ (b : List ℕ). IsOver given (reads s b) x.stage x.text last) (append-nil rest) (over_at given (reads s (rest ++ [])) k.scenario x.stage x.text last (k.reads_so []) k.over))

  pub rest_closes : (rest : List ℕ) (last : Last) → is_line rest ≡ true → length rest ≤ longest_line → (closes s rest).ending ≡ ending_of last
      → IsOver given (closing (read 0 s rest)) x.stage x.text last
  rest_closes rest last feed short ends =
      let same : KeepsSetup s.roster (closes s rest).roster = subst (λ (r : Roster). KeepsSetup s.roster r) (sym (closes_keeps s rest).0) (kept s.roster) in
      over_at given (closing (read 0 s rest)) (closes s rest) x.stage x.text last (ap closing (read_rest s rest h.follows.going feed short)) (record {
        ends = ends;
        so = moved given s (closes s rest) x.stage x.text (closes_keeps s rest).1 same h.so;
      })

-- what the reader says of a line
pub took : (s : Scenario) (x : ReaderState) → Follows s x → (line : List ℕ) (y : ReaderState) (next n : Next) → Takes x line y next → next ≡ n → Took s line y n
took s x h line y next n takes_it is = subst (λ (m : Next). Took s line y m) is (takes_it s h)

-- a scenario that the reader has read
abbrev pub some_scenario : ReaderState → Scenario
some_scenario x = record { lines = x.lines; roster = x.roster; steps = []; ending = Going }

pub took_of : (x : ReaderState) (line : List ℕ) (y : ReaderState) (next n : Next) → Takes x line y next → next ≡ n → Took (some_scenario x) line y n
took_of x = took (some_scenario x) x (record { lines = refl; roster = refl; going = refl })

-- a line

module _ (given : List ℕ) (s : Scenario) (line : List ℕ) (going : s.ending ≡ Going) (feed : is_line line ≡ true) where
  module _ (x : Played) (h : IsTold given s x.stage x.text) where
    ends_by : (r : Result Said LineWhy) (last : Last) → x.reader.roster.ports ≡ s.roster.ports → whole_says s.roster line ≡ r → EndsBy s r last
        → EndsIn given s (λ more. line ++ 10 ∷ more) x last
    ends_by (Err why) last ports says is = record {
      scenario = bad s why;
      reads_so = λ more. ap (λ (p : Progress). p.scenario) (read_bad s why line more going feed says);
      ports = ports;
      over = bad_over given s why x.stage x.text last is h;
    }
    ends_by (Ok what) last ports says is =
        let t : Scenario = takes s said.Ends [] in
        let so : whole_says s.roster line ≡ Ok said.Ends = says ∙ ap Ok is.0 in record {
          scenario = t;
          reads_so = λ more. ap (λ (p : Progress). p.scenario) (read_line s said.Ends line [] more going feed so refl ∙ read_ended t more refl);
          ports = ports;
          over = record { ends = ap ending_of (sym is.1); so = moved given s t x.stage x.text (append-nil s.steps) (kept s.roster) h };
        }

    pub line_ends : (last : Last) → Took s line x.reader (nexts.End last) → EndsIn given s (λ more. line ++ 10 ∷ more) x last
    line_ends last t = ends_by (whole_says s.roster line) last (ap (λ (r : Roster). r.ports) t.1) refl t.0

    -- after which nothing is to be done
    pub goes_quietly : Took s line x.reader nexts.Line → ReadsOn given s (λ more. line ++ 10 ∷ more) x
    goes_quietly t =
        let now : Scenario = takes s t.0 [] in record {
          scenario = now;
          reads_so = λ more. read_line s t.0 line [] more going feed t.1 (sym t.2);
          stands = record { follows = t.4; so = moved given s now x.stage x.text t.3 (subst (λ (r : Roster). KeepsSetup s.roster r) t.4.roster t.5) h };
        }

    -- with its step
    pub goes_by_step : (step : Step) (y : Played) → Took s line x.reader (nexts.Step step) → Does x step y → ReadsOn given s (λ more. line ++ 10 ∷ more) y
    goes_by_step step y t d = record {
      scenario = with_steps (among s) (step ∷ []);
      reads_so = λ more. read_line s (said.Does step) line [] more going feed t.0 refl;
      stands = does_one given (among s) x y step (refl, refl) (among_stands given s x t.1.lines t.1.roster h) d;
    }

    -- whose section is next
    pub to_section : (n : ℕ) → Took s line x.reader (nexts.Section n) → AtSection given s line n x
    to_section n t = record { feedless = feed; says = t.0; going = going; follows = t.2; so = h }

-- before its step
pub step_ready : (s : Scenario) (line : List ℕ) (y : ReaderState) (w : Option World) (step : Step) → IsReady s.roster w → Took s line y (nexts.Step step) → IsReady y.roster w
step_ready s line y w step h t = ready_at s.roster y.roster w (ap (λ (r : Roster). r.ports) t.1.roster) h

pub step_given : (s : Scenario) (line : List ℕ) (y : ReaderState) (step : Step) → Took s line y (nexts.Step step) → comes_by_line y.roster.check (chips_of y.roster.ports) step ≡ true
step_given s line y step t = ap (λ (r : Roster). comes_by_line r.check (chips_of r.ports) step) t.1.roster ∙ t.2

pub step_fits : (s : Scenario) (line : List ℕ) (y : ReaderState) (x : Standing) (step : Step) → Fits s.roster x → Took s line y (nexts.Step step) → Fits y.roster x
step_fits s line y x step h t = fits_at s.roster y.roster x (ap (λ (r : Roster). r.check) t.1.roster) h

-- behind it no port can be declared any more
at_steps : (r q : Roster) → q ≡ record r { place = places.Steps } → IsBehindDeclarations q
at_steps r q is = subst IsBehindDeclarations (sym is) (refl, refl)

pub step_steady : (s : Scenario) (line : List ℕ) (y z : ReaderState) (w : Option World) (step : Step) → Took s line y (nexts.Step step) → z ≡ y → IsReady z.roster w → IsSteady z.roster w
step_steady s line y z w step t is h = steady_of z.roster w h (at_steps s.roster z.roster (ap (λ (r : ReaderState). r.roster) is ∙ t.1.roster))

-- before its section
pub section_fits : (s : Scenario) (line : List ℕ) (y : ReaderState) (x : Standing) (n : ℕ) → Fits s.roster x → Took s line y (nexts.Section n) → Fits y.roster x
section_fits s line y x n h t = fits_at s.roster y.roster x (ap (λ (r : Roster). r.check) t.2.roster) h

pub section_steady : (s : Scenario) (line : List ℕ) (y : ReaderState) (w : Option World) (n : ℕ) → IsReady s.roster w → Took s line y (nexts.Section n) → IsSteady y.roster w
section_steady s line y w n h t =
    steady_of y.roster w (ready_at s.roster y.roster w (ap (λ (r : Roster). r.ports) t.2.roster) h) (at_steps s.roster y.roster t.2.roster)

pub section_behind : (s : Scenario) (line : List ℕ) (y : ReaderState) (n : ℕ) → Took s line y (nexts.Section n) → (n ≤ longest_section) × IsBehindDeclarations y.roster
section_behind s line y n t = (t.1, at_steps s.roster y.roster t.2.roster)

-- a section

module _ (given : List ℕ) (s : Scenario) (line : List ℕ) (n : ℕ) (x : Played) (h : AtSection given s line n x) where
  numbered : (why : LineWhy) (last : Last) → last ≡ lasts.Bad x.reader.lines why → last ≡ lasts.Bad (s.lines + 1) why
  numbered why last is = is ∙ ap (λ k. lasts.Bad k why) h.follows.lines

  -- nothing of it is read before it is whole
  pub reads_none : (part : List ℕ) → length part < n → read 0 s (line ++ 10 ∷ part) ≡ record { scenario = s; line = []; behind = [] }
  reads_none part short = read_part s (said.Captures n) line part h.going h.feedless h.says short

  module _ (section : List ℕ) (sized : length section ≡ n) where
    here : captured x.reader.roster.ports (packets section (length x.reader.roster.ports)) ≡ captured s.roster.ports (packets section (length s.roster.ports))
    here = ap (λ (q : Roster). captured q.ports (packets section (length q.ports))) h.follows.roster

    pub reads_it : (r : Result (List Step) LineWhy) → captured x.reader.roster.ports (packets section (length x.reader.roster.ports)) ≡ r
        → (more : List ℕ) → read 0 s (line ++ 10 ∷ (section ++ more)) ≡ read 0 (takes_steps s (said.Captures n) r) more
    reads_it r gives more =
        read_line s (said.Captures n) line section more h.going h.feedless h.says sized
        ∙ ap (λ (o : Result (List Step) LineWhy). read 0 (takes_steps s (said.Captures n) o) more) (sym here ∙ gives)

    -- whose steps were done
    section_done : (its : List Step) (y : Played) → captured x.reader.roster.ports (packets section (length x.reader.roster.ports)) ≡ Ok its → DoesAll x its y
        → ReadsOn given s (λ more. line ++ 10 ∷ (section ++ more)) y
    section_done its y gives does = record {
      scenario = with_steps (among s) its;
      reads_so = reads_it (Ok its) gives;
      stands = does given (among s) (refl, refl) (among_stands given s x h.follows.lines h.follows.roster h.so);
    }

    -- a block of which is broken
    pub section_broken : (why : LineWhy) (last : Last) → captured x.reader.roster.ports (packets section (length x.reader.roster.ports)) ≡ Err why → last ≡ lasts.Bad x.reader.lines why
        → EndsIn given s (λ more. line ++ 10 ∷ (section ++ more)) x last
    section_broken why last gives is = record {
      scenario = bad s why;
      reads_so = λ more. ap (λ (p : Progress). p.scenario) (reads_it (Err why) gives more ∙ read_ended (bad s why) more refl);
      ports = ap (λ (r : Roster). r.ports) h.follows.roster;
      over = bad_over given s why x.stage x.text last (numbered why last is) h.so;
    }

    module _ (gave : Gave) (captures_it : IsCaptured x.reader section gave) where
      pub goes_by_section : (its : Vec Step Global) (y : Played) → gave ≡ sections.Steps its → DoesAll x its.items y → ReadsOn given s (λ more. line ++ 10 ∷ (section ++ more)) y
      goes_by_section its y is does = section_done its.items y (subst (λ (c : Gave). IsCaptured x.reader section c) is captures_it).0 does

      pub ends_in_section : (last : Last) → gave ≡ sections.End last → EndsIn given s (λ more. line ++ 10 ∷ (section ++ more)) x last
      ends_in_section last is =
          let got : IsCaptured x.reader section (sections.End last) = subst (λ (c : Gave). IsCaptured x.reader section c) is captures_it in section_broken got.0 last got.1 got.2

pub section_given : (x : ReaderState) (section : List ℕ) (gave : Gave) (its : Vec Step Global) → IsCaptured x section gave → gave ≡ sections.Steps its
    → list_all (comes_by_line x.roster.check (chips_of x.roster.ports)) its.items ≡ true
section_given x section gave its h is = (subst (λ (c : Gave). IsCaptured x section c) is h).1 x.roster.check

-- a line of a text

module _ (s : Scenario) (line behind : List ℕ) (x : Played) where
  pub line_goes_on : Fits x.reader.roster x.stage → ReadsOn [] s (λ more. line ++ 10 ∷ more) x → GoesOn s (line ++ 10 ∷ behind) x behind
  line_goes_on fits h = record { scenario = h.scenario; reads_so = h.reads_so behind; stands = h.stands; fits = fits }

  pub over_in_line : (last : Last) → EndsIn [] s (λ more. line ++ 10 ∷ more) x last → IsOver [] (closing (read 0 s (line ++ 10 ∷ behind))) x.stage x.text last
  over_in_line last h =
      closes_over [] (read 0 s (line ++ 10 ∷ behind)) x.stage x.text last (over_at [] (reads s (line ++ 10 ∷ behind)) h.scenario x.stage x.text last (h.reads_so behind) h.over)

-- its section is cut off
pub cut_off : (given : List ℕ) (s : Scenario) (line : List ℕ) (n : ℕ) (x : Played) (h : AtSection given s line n x) (part : List ℕ) (last : Last) → length part < n → last ≡ lasts.Bad x.reader.lines Unended
    → IsOver given (closing (read 0 s (line ++ 10 ∷ part))) x.stage x.text last
cut_off given s line n x h part last short is =
    over_at given (closing (read 0 s (line ++ 10 ∷ part))) (bad s Unended) x.stage x.text last
    (ap closing (reads_none given s line n x h part short) ∙ ap (λ (d : Ending). closes_at d s []) h.going)
    (bad_over given s Unended x.stage x.text last (numbered given s line n x h Unended last is) h.so)

module _ (s : Scenario) (line : List ℕ) (n : ℕ) (behind : List ℕ) (x : Played) where
  cut : take n behind ++ drop n behind ≡ behind
  cut = take-append-drop n behind

  pub section_goes_on : n ≤ length behind → Fits x.reader.roster x.stage → ReadsOn [] s (λ more. line ++ 10 ∷ (take n behind ++ more)) x → GoesOn s (line ++ 10 ∷ behind) x (take (length behind - n) (drop n behind))
  section_goes_on within fits h =
      let rest : take (length behind - n) (drop n behind) ≡ drop n behind = take_all _ _ (omega (arith, length-drop n behind)) in
      subst (λ (l : List ℕ). GoesOn s (line ++ 10 ∷ behind) x l) (sym rest) (record {
        scenario = h.scenario;
        reads_so = ap (λ (l : List ℕ). read 0 s (line ++ 10 ∷ l)) (sym cut) ∙ h.reads_so (drop n behind);
        stands = h.stands;
        fits = fits;
      })

  pub over_in_section : (last : Last) → EndsIn [] s (λ more. line ++ 10 ∷ (take n behind ++ more)) x last
      → IsOver [] (closing (read 0 s (line ++ 10 ∷ behind))) x.stage x.text last
  over_in_section last h =
      subst (λ (l : List ℕ). IsOver [] (closing (read 0 s (line ++ 10 ∷ l))) x.stage x.text last) cut
      (closes_over [] (read 0 s (line ++ 10 ∷ (take n behind ++ drop n behind))) x.stage x.text last
      (over_at [] (reads s (line ++ 10 ∷ (take n behind ++ drop n behind))) h.scenario x.stage x.text last (h.reads_so (drop n behind)) h.over))

-- one line after another

pub stays_at : (s : Scenario) (bytes : List ℕ) (x : Played) → Stands [] s x → Fits x.reader.roster x.stage → GoesOn s bytes x bytes
stays_at s bytes x h fits = record { scenario = s; reads_so = refl; stands = h; fits = fits }

-- by the first line of what is left
pub line_on : (s : Scenario) (bytes rest line behind : List ℕ) (x y : Played) (later : List ℕ) (h : GoesOn s bytes x rest) → rest ≡ line ++ 10 ∷ behind
    → GoesOn h.scenario (line ++ 10 ∷ behind) y later → GoesOn s bytes y later
line_on s bytes rest line behind x y later h joined k =
    record { scenario = k.scenario; reads_so = h.reads_so ∙ ap (λ (b : List ℕ). read 0 h.scenario b) joined ∙ k.reads_so; stands = k.stands; fits = k.fits }

pub is_over : (s : Scenario) (bytes rest : List ℕ) (x : Played) (w : Standing) (all : List ℕ) (last : Last) (h : GoesOn s bytes x rest) → IsOver [] (closing (read 0 h.scenario rest)) w all last
    → IsOver [] (closing (read 0 s bytes)) w all last
is_over s bytes rest x w all last h k = over_at [] (closing (read 0 s bytes)) (closing (read 0 h.scenario rest)) w all last (ap closing h.reads_so) k

-- of the whole bytes
pub whole_over : (bytes rest : List ℕ) (x : Played) (w : Standing) (all : List ℕ) (last : Last) (h : GoesOn (opened false) bytes x rest) → IsOver [] (closing (read 0 h.scenario rest)) w all last
    → IsOver [] (scenario bytes) w all last
whole_over bytes rest x w all last h k =
    subst (λ (t : Scenario). IsOver [] t w all last) (sym (scenario_is bytes)) (is_over (opened false) bytes rest x w all last h k)
