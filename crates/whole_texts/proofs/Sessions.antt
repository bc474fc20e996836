-- A session takes a line or a section more, and lets go what it has told.
use Rattle.std.proofs.Common.{◌≡◌, ℕ, ◌+◌, ◌<◌, ◌≤◌, Bool, true, false, is_some, List, [], ◌∷◌, ◌++◌, length, Option, None, Some, Result, Err, refl, sym, ◌∙◌, ap, subst}
use Rattle.std.proofs.Common.{String, arith, append_assoc, length-append, string_bytes}
use Rattle.std.specs.declared.alloc.Global.{Global}
use Rattle.std.proofs.lemmas.Bool.{and_right}
use Rattle.std.proofs.lemmas.List.{append-nil}
use Rattle.std.proofs.lemmas.List.Folds.{list_all-append}
use Rattle.br_model.specs.Plane.Runs.{run}
use Rattle.br_model.specs.Plane.World.{World}
use Rattle.br_model.specs.Program.Runs.{body, body_of, run_of, setup_of, told}
use Rattle.br_model.specs.Table.Limits.{most_bytes}
use Rattle.br_model.specs.Text.Operands.{longest_section}
use Rattle.br_model.specs.Text.Roster.{Roster}
use Rattle.br_model.specs.Text.Scenario.{Scenario, Ending, Going, Ended, Bad, Progress, opened, read, reads}
use Rattle.br_model.specs.Theorems.WholeLines.{is_line, is_no_feed}
use Rattle.br_model.proofs.Text.Reading.{closes_keeps, read_rest, scenario_is}
use Rattle.scenario_reader.specs.declared.reader.Last.{Last}
use Rattle.scenario_reader.specs.declared.reader.Last.TheVariants as lasts
use Rattle.scenario_reader.specs.Reading.{IsBehindDeclarations, ReaderState, ending_of}
use Rattle.whole_texts.specs.declared.session.Awaits.{Awaits}
use Rattle.whole_texts.specs.declared.session.Awaits.TheVariants.{Line, Section, Nothing}
use Rattle.whole_texts.specs.declared.session.Session.{Session}
use Rattle.whole_texts.specs.declared.session.SessionFault.{SessionFault}
use Rattle.whole_texts.specs.declared.session.SessionFault.TheVariants as faults
use Rattle.scenario_play.specs.declared.play.Taken.TheVariants as taken
use Rattle.scenario_play.specs.declared.fronts.Front.{Front}
use Rattle.scenario_play.specs.Fronts.{CutsFront}
use Rattle.whole_texts.specs.Sessions.{Agrees, EndsSection, Goes, HasFinished, InSection, IsAt, IsAwaiting, IsKept, IsOut, IsSectionWanted, IsSound, IsWanted, SoAt, Takes}
use Rattle.whole_texts.specs.Sessions.{end_of, ended_of, section_of, state, told_at, told_so_far}
use Rattle.scenario_play.specs.Playing.{Played, After, AfterSection, AtSection, EndsIn, IsOver, IsReady, IsSteady, IsTold, ReadsOn, Stands}
use Rattle.whole_texts.specs.declared.lone.Lone.{Lone}
use Rattle.whole_texts.specs.Stages.{lone}
use Rattle.whole_texts.specs.Texts.{ends_well}
use Rattle.scenario_play.proofs.Lines.{closes_over, over_at, reads_none}
use Rattle.scenario_play.proofs.Steps.{steady_by, steady_of, told_is, world_before}

-- before the first line

pub opens : (x : Played) → Stands [] (opened false) x → ReadsOn [] (opened false) (λ more. more) x
opens x h = record { scenario = opened false; reads_so = λ more. refl; stands = h }

pub opens_sound : (x : Played) → Stands [] (opened false) x → IsAwaiting Line 0 x.reader x.stage.world
opens_sound x h = (steady_by [] (opened false) x h, omega (arith, h.follows.lines))

-- whether a line has a line feed

pub has_feed : (bytes : List ℕ) (o : Option Front) → CutsFront bytes o → is_some o ≡ true → is_line bytes ≡ false
has_feed bytes None h some = absurd (cc)
has_feed bytes (Some f) h some = ap is_line h.joined ∙ list_all-append is_no_feed f.line.now (10 ∷ f.behind.now) ∙ and_right _ _ refl

pub has_no_feed : (bytes : List ℕ) (o : Option Front) → CutsFront bytes o → is_some o ≡ false → is_line bytes ≡ true
has_no_feed bytes None h some = h
has_no_feed bytes (Some f) h some = absurd (cc)

-- a section that isn't wanted

pub not_wanted : (a : Awaits) (n : ℕ) → a ≡ Line → section_of a ≡ Some n → ⊥
not_wanted a n is some = let none : None ≡ Some n = subst (λ (b : Awaits). section_of b ≡ Some n) is some in absurd (cc)

pub not_that_long : (a : Awaits) (m n : ℕ) → a ≡ Section m → (n ≡ m → ⊥) → section_of a ≡ Some n → ⊥
not_that_long a m n is other some = other (ap or_none (sym (subst (λ (b : Awaits). section_of b ≡ Some n) is some)))
  where
    or_none : Option ℕ → ℕ
    or_none None = 0
    or_none (Some k) = k

-- nothing is taken
pub refused : (x : Session) (more : List ℕ) (wanted : Type 0) (refuses : SessionFault → Type 0) (fault : SessionFault) (r : Result (Unit {0}) SessionFault) → r ≡ Err fault → refuses fault
    → Goes x more wanted refuses x r
refused x more wanted refuses fault r is h = subst (λ (q : Result (Unit {0}) SessionFault). Goes x more wanted refuses x q) (sym is) (by fault h)
  where
    by : (f : SessionFault) → refuses f → IsKept x x f × refuses f
    by faults.Ended h = (refl, h)
    by faults.Misplaced h = (refl, h)
    by faults.TooLong h = (refl, h)
    by faults.NoMemory h = (tt, h)

-- the end

ends_so : (last : Last) → ended_of (ending_of last) ≡ Some (ends_well (ending_of last))
ends_so lasts.Ended = refl
ends_so (lasts.Bad n why) = refl

told_when : (d : Ending) (bytes : List ℕ) (well : Bool) → ended_of d ≡ Some well → told_at d bytes ≡ told bytes
told_when Going bytes well h = absurd (cc)
told_when Ended bytes well h = refl
told_when (Bad n why) bytes well h = refl

-- with its last line
finishes : (given bytes : List ℕ) (w y : Session) (last : Last) → HasFinished w last y → IsOver given (reads (opened false) bytes) (state w).stage (state w).text last
    → Agrees (reads (opened false) bytes) w.play.reader.roster (state w).stage → IsOut bytes given (ends_well (ending_of last)) (state y)
finishes given bytes w y last done h agrees = record {
  ends = ap ended_of h.ends ∙ ends_so last;
  body =
      ap (λ (b : List ℕ). given ++ b) done.text
      ∙ told_is given bytes (state w).stage (state w).text last
      (subst (λ (s : Scenario). IsOver given s (state w).stage (state w).text last) (sym (scenario_is bytes))
      (closes_over given (read 0 (opened false) bytes) (state w).stage (state w).text last h));
  agrees =
      subst (λ (r : ReaderState). Agrees (reads (opened false) bytes) r.roster (lone y.stage.world)) (sym done.reader)
      (subst (λ (l : Lone). Agrees (reads (opened false) bytes) w.play.reader.roster (lone l.world)) (sym done.stage) agrees);
}

-- the stage of a scenario that has ended
over_agrees : (given : List ℕ) (s : Scenario) (x : Played) (last : Last) → IsOver given s x.stage x.text last → x.reader.roster.ports ≡ s.roster.ports → Agrees s x.reader.roster x.stage
over_agrees given s x last h ports = record { ports = ports; world = world_before s x.stage.world h.so.ran }

-- one after another

joined : (bytes line more : List ℕ) → (bytes ++ (line ++ 10 ∷ [])) ++ more ≡ bytes ++ (line ++ 10 ∷ more)
joined bytes line more = append_assoc bytes (line ++ 10 ∷ []) more ∙ ap (λ (l : List ℕ). bytes ++ l) (append_assoc line (10 ∷ []) more)

module _ (given bytes line : List ℕ) (x y : Played) (h : ReadsOn given (opened false) (λ more. bytes ++ more) x) where
  line_on : ReadsOn given h.scenario (λ more. line ++ 10 ∷ more) y → ReadsOn given (opened false) (λ more. (bytes ++ (line ++ 10 ∷ [])) ++ more) y
  line_on k = record {
    scenario = k.scenario;
    reads_so = λ more. ap (λ (b : List ℕ). read 0 (opened false) b) (joined bytes line more) ∙ h.reads_so (line ++ 10 ∷ more) ∙ k.reads_so more;
    stands = k.stands;
  }

  line_is : (last : Last) (k : EndsIn given h.scenario (λ more. line ++ 10 ∷ more) y last) → reads (opened false) (bytes ++ (line ++ 10 ∷ [])) ≡ k.scenario
  line_is last k = ap (λ (p : Progress). p.scenario) (h.reads_so (line ++ 10 ∷ [])) ∙ k.reads_so []

  line_over : (last : Last) → EndsIn given h.scenario (λ more. line ++ 10 ∷ more) y last
      → IsOver given (reads (opened false) (bytes ++ (line ++ 10 ∷ []))) y.stage y.text last
  line_over last k =
      over_at given (reads (opened false) (bytes ++ (line ++ 10 ∷ []))) k.scenario y.stage y.text last (line_is last k) k.over

  line_agrees : (last : Last) → EndsIn given h.scenario (λ more. line ++ 10 ∷ more) y last → Agrees (reads (opened false) (bytes ++ (line ++ 10 ∷ []))) y.reader.roster y.stage
  line_agrees last k =
      over_agrees given (reads (opened false) (bytes ++ (line ++ 10 ∷ []))) y last (line_over last k) (k.ports ∙ ap (λ (s : Scenario). s.roster.ports) (sym (line_is last k)))

  to_section : (n : ℕ) → AtSection given h.scenario line n y → InSection (bytes ++ (line ++ 10 ∷ [])) given n y
  to_section n k = record { scenario = h.scenario; before = bytes; line = line; joined = refl; reads_so = h.reads_so; at = k }

module _ (given bytes section : List ℕ) (x y : Played) (h : InSection bytes given (length section) x) where
  section_on : ReadsOn given h.scenario (λ more. h.line ++ 10 ∷ (section ++ more)) y → ReadsOn given (opened false) (λ more. (bytes ++ section) ++ more) y
  section_on k = record {
    scenario = k.scenario;
    reads_so = λ more.
        ap (λ (b : List ℕ). read 0 (opened false) b)
        (ap (λ (b : List ℕ). (b ++ section) ++ more) h.joined ∙ append_assoc (h.before ++ (h.line ++ 10 ∷ [])) section more ∙ joined h.before h.line (section ++ more))
        ∙ h.reads_so (h.line ++ 10 ∷ (section ++ more))
        ∙ k.reads_so more;
    stands = k.stands;
  }

  section_is : (last : Last) (k : EndsIn given h.scenario (λ more. h.line ++ 10 ∷ (section ++ more)) y last) → reads (opened false) (bytes ++ section) ≡ k.scenario
  section_is last k =
      let so : read 0 (opened false) (bytes ++ section) ≡ read 0 h.scenario (h.line ++ 10 ∷ (section ++ [])) =
      ap (λ (b : List ℕ). read 0 (opened false) b) (ap (λ (b : List ℕ). b ++ section) h.joined ∙ joined h.before h.line section)
      ∙ h.reads_so (h.line ++ 10 ∷ section)
      ∙ ap (λ (b : List ℕ). read 0 h.scenario (h.line ++ 10 ∷ b)) (sym (append-nil section)) in
      ap (λ (p : Progress). p.scenario) so ∙ k.reads_so []

  section_over : (last : Last) → EndsIn given h.scenario (λ more. h.line ++ 10 ∷ (section ++ more)) y last
      → IsOver given (reads (opened false) (bytes ++ section)) y.stage y.text last
  section_over last k = over_at given (reads (opened false) (bytes ++ section)) k.scenario y.stage y.text last (section_is last k) k.over

  section_agrees : (last : Last) → EndsIn given h.scenario (λ more. h.line ++ 10 ∷ (section ++ more)) y last → Agrees (reads (opened false) (bytes ++ section)) y.reader.roster y.stage
  section_agrees last k =
      over_agrees given (reads (opened false) (bytes ++ section)) y last (section_over last k) (k.ports ∙ ap (λ (s : Scenario). s.roster.ports) (sym (section_is last k)))

-- what is told so far

-- where a scenario goes on
record IsGoing (bytes given : List ℕ) (x : Played) : Type 0 where
  pub scenario : Scenario
  pub is : reads (opened false) bytes ≡ scenario
  pub going : scenario.ending ≡ Going
  pub ports : x.reader.roster.ports ≡ scenario.roster.ports
  pub so : IsTold given scenario x.stage x.text

at_line : (bytes given : List ℕ) (x : Played) → ReadsOn given (opened false) (λ more. bytes ++ more) x → IsGoing bytes given x
at_line bytes given x h = record {
  scenario = h.scenario;
  is =
      ap (λ (b : List ℕ). reads (opened false) b) (sym (append-nil bytes))
      ∙ ap (λ (p : Progress). p.scenario) (h.reads_so [] ∙ read_rest h.scenario [] h.stands.follows.going refl (omega arith));
  going = h.stands.follows.going;
  ports = ap (λ (r : Roster). r.ports) h.stands.follows.roster;
  so = h.stands.so;
}

at_section : (bytes given : List ℕ) (n : ℕ) (x : Played) → 0 < n → InSection bytes given n x → IsGoing bytes given x
at_section bytes given n x some h = record {
  scenario = h.scenario;
  is =
      ap (λ (b : List ℕ). reads (opened false) b) h.joined
      ∙ ap (λ (p : Progress). p.scenario) (h.reads_so (h.line ++ 10 ∷ []) ∙ reads_none given h.scenario h.line n x h.at [] some);
  going = h.at.going;
  ports = ap (λ (r : Roster). r.ports) h.at.follows.roster;
  so = h.at.so;
}

body_is : (bytes : List ℕ) → body_of (run_of (reads (opened false) bytes)) ≡ body bytes
unfolding body
body_is bytes =
    let p : Progress = read 0 (opened false) bytes in
    let keeps = closes_keeps p.scenario p.line in
    ap body_of (λ i. run (setup_of (sym keeps.0 i)) (sym keeps.1 i)) ∙ ap (λ (s : Scenario). body_of (run_of s)) (sym (scenario_is bytes))

going_told : (bytes given : List ℕ) (x : Played) → IsGoing bytes given x → given ++ x.text ≡ told_so_far bytes
going_told bytes given x h =
    h.so.body
    ∙ ap (λ (s : Scenario). body_of (run_of s)) (sym h.is)
    ∙ body_is bytes
    ∙ sym (ap (λ (d : Ending). told_at d bytes) (ap (λ (s : Scenario). s.ending) h.is ∙ h.going))

going_ends : (bytes given : List ℕ) (x : Played) → IsGoing bytes given x → None ≡ ended_of (reads (opened false) bytes).ending
going_ends bytes given x h = sym (ap (λ (s : Scenario). ended_of s.ending) h.is ∙ ap ended_of h.going)

told_so : (a : Awaits) (bytes given : List ℕ) (x : Played) → SoAt a bytes given x → given ++ x.text ≡ told_so_far bytes
told_so Line bytes given x h = going_told bytes given x (at_line bytes given x h)
told_so (Section n) bytes given x h = going_told bytes given x (at_section bytes given n x h.0 h.1)
told_so (Nothing well) bytes given x h = h.body ∙ sym (told_when (reads (opened false) bytes).ending bytes well h.ends)

pub session_told : (x : Session) (bytes given : List ℕ) → IsAt bytes given x → given ++ string_bytes x.text ≡ told_so_far bytes
session_told x bytes given h = told_so x.awaits bytes given (state x) h.so

ends_at : (a : Awaits) (bytes given : List ℕ) (x : Played) → SoAt a bytes given x → end_of a ≡ ended_of (reads (opened false) bytes).ending
ends_at Line bytes given x h = going_ends bytes given x (at_line bytes given x h)
ends_at (Section n) bytes given x h = going_ends bytes given x (at_section bytes given n x h.0 h.1)
ends_at (Nothing well) bytes given x h = sym h.ends

pub session_ends : (x : Session) (bytes given : List ℕ) → IsAt bytes given x → end_of x.awaits ≡ ended_of (reads (opened false) bytes).ending
session_ends x bytes given h = ends_at x.awaits bytes given (state x) h.so

-- its ports and its world

going_agrees : (bytes given : List ℕ) (x : Played) → IsGoing bytes given x → Agrees (reads (opened false) bytes) x.reader.roster x.stage
going_agrees bytes given x h =
    subst (λ (s : Scenario). Agrees s x.reader.roster x.stage) (sym h.is) (record { ports = h.ports; world = world_before h.scenario x.stage.world h.so.ran })

agrees_at : (a : Awaits) (bytes given : List ℕ) (x : Played) → SoAt a bytes given x → Agrees (reads (opened false) bytes) x.reader.roster x.stage
agrees_at Line bytes given x h = going_agrees bytes given x (at_line bytes given x h)
agrees_at (Section n) bytes given x h = going_agrees bytes given x (at_section bytes given n x h.0 h.1)
agrees_at (Nothing well) bytes given x h = h.agrees

pub session_agrees : (x : Session) (bytes given : List ℕ) → IsAt bytes given x → Agrees (reads (opened false) bytes) x.play.reader.roster (lone x.stage.world)
session_agrees x bytes given h = agrees_at x.awaits bytes given (state x) h.so

-- what is told is let go

module _ (given : List ℕ) (x : Played) (rest : List ℕ) (none : rest ≡ []) where
  abbrev all : List ℕ
  all = given ++ x.text

  abbrev y : Played
  y = record { reader = x.reader; stage = x.stage; text = rest }

  nothing_more : all ++ rest ≡ all
  nothing_more = ap (λ (b : List ℕ). all ++ b) none ∙ append-nil all

  told_less : (s : Scenario) → IsTold given s x.stage x.text → IsTold all s x.stage rest
  told_less s h = record { ran = h.ran; ready = h.ready; also = h.also; body = nothing_more ∙ h.body }

  less : (a : Awaits) (bytes : List ℕ) → SoAt a bytes given x → SoAt a bytes all y
  less Line bytes h = record {
    scenario = h.scenario;
    reads_so = h.reads_so;
    stands = record { follows = h.stands.follows; so = told_less h.scenario h.stands.so };
  }
  less (Section n) bytes h =
      let k = h.1 in (
        h.0,
        record {
          scenario = k.scenario;
          before = k.before;
          line = k.line;
          joined = k.joined;
          reads_so = k.reads_so;
          at = record { feedless = k.at.feedless; says = k.at.says; going = k.at.going; follows = k.at.follows; so = told_less k.scenario k.at.so };
        },
      )
  less (Nothing well) bytes h = record { ends = h.ends; body = nothing_more ∙ h.body; agrees = h.agrees }

pub lets_go : (x : Session) (t : String Global) → string_bytes t ≡ [] → (bytes given : List ℕ) → IsAt bytes given x → IsAt bytes (told_so_far bytes) (record x { text = t })
lets_go x t none bytes given h =
    subst (λ (g : List ℕ). IsAt bytes g (record x { text = t })) (session_told x bytes given h) (record { taken = h.taken; so = less given (state x) (string_bytes t) none x.awaits bytes h.so })

-- a line

module _ (x : Session) (line : List ℕ) (sound : IsSound x) (wanted : IsWanted x line) where
  awaiting : IsAwaiting Line x.taken x.play.reader x.stage.world
  awaiting = subst (λ (a : Awaits). IsAwaiting a x.taken x.play.reader x.stage.world) wanted.awaits sound.awaiting

  pub line_few : x.play.reader.lines ≤ x.taken
  line_few = awaiting.1

  pub line_steady : IsSteady x.play.reader.roster x.stage.world
  line_steady = awaiting.0

  stands_at : (bytes given : List ℕ) → IsAt bytes given x → ReadsOn given (opened false) (λ more. bytes ++ more) (state x)
  stands_at bytes given h = subst (λ (a : Awaits). SoAt a bytes given (state x)) wanted.awaits h.so

  counted : (n : ℕ) (bytes : List ℕ) → n ≡ x.taken + (length line + 1) → x.taken ≡ length bytes → n ≡ length (bytes ++ (line ++ 10 ∷ []))
  counted n bytes is taken_so = omega (arith, is, taken_so, length-append bytes (line ++ 10 ∷ []), length-append line (10 ∷ []))

  module _ (y : Session) (taken_so : y.taken ≡ x.taken + (length line + 1)) where
    most : y.taken ≤ most_bytes
    most = subst (λ (n : ℕ). n ≤ most_bytes) (sym taken_so) wanted.room

    takes_by : IsAwaiting y.awaits y.taken y.play.reader y.stage.world
        → ((bytes given : List ℕ) → ReadsOn given (opened false) (λ more. bytes ++ more) (state x) → SoAt y.awaits (bytes ++ (line ++ 10 ∷ [])) given (state y)) → Takes x (line ++ 10 ∷ []) y
    takes_by waits so = record {
      sound = record { most = most; awaiting = waits };
      at = λ bytes given h. record { taken = counted y.taken bytes taken_so h.taken; so = so bytes given (stands_at bytes given h) };
    }

    -- the next one is wanted
    pub takes_line : y.awaits ≡ x.awaits → y.play.reader.lines ≤ x.play.reader.lines + 1 → IsSteady y.play.reader.roster y.stage.world
        → ((given : List ℕ) (s : Scenario) → Stands given s (state x) → After given s line (state y) taken.On) → Takes x (line ++ 10 ∷ []) y
    takes_line awaits lines steady after =
        let is : y.awaits ≡ Line = awaits ∙ wanted.awaits in
        takes_by (subst (λ (a : Awaits). IsAwaiting a y.taken y.play.reader y.stage.world) (sym is) (steady, omega (arith, lines, line_few, taken_so)))
        (λ bytes given h. subst (λ (a : Awaits). SoAt a (bytes ++ (line ++ 10 ∷ [])) given (state y)) (sym is) (line_on given bytes line (state x) (state y) h (after given h.scenario h.stands)))

    -- its section is
    pub takes_to_section : (n : ℕ) → y.awaits ≡ Section n → 0 < n → y.play.reader.lines ≤ x.play.reader.lines + 1 → IsSteady y.play.reader.roster y.stage.world
        → (n ≤ longest_section) × IsBehindDeclarations y.play.reader.roster
        → ((given : List ℕ) (s : Scenario) → Stands given s (state x) → After given s line (state y) (taken.Section n)) → Takes x (line ++ 10 ∷ []) y
    takes_to_section n is some lines steady behind after =
        takes_by (subst (λ (a : Awaits). IsAwaiting a y.taken y.play.reader y.stage.world) (sym is) (steady, omega (arith, lines, line_few, taken_so), behind.0, behind.1))
        (λ bytes given h. subst (λ (a : Awaits). SoAt a (bytes ++ (line ++ 10 ∷ [])) given (state y)) (sym is)
        (some, to_section given bytes line (state x) (state y) h n (after given h.scenario h.stands)))

  -- a section without a byte was taken, too
  pub takes_with_section : (w : Session) → w.taken ≡ x.taken + (length line + 1) → ((given : List ℕ) (s : Scenario) → Stands given s (state x) → After given s line (state w) (taken.Section 0))
      → (y : Session) → EndsSection w [] y → Takes x (line ++ 10 ∷ []) y
  takes_with_section w taken_so after y h =
      takes_by y (h.taken ∙ taken_so) h.awaiting
      (λ bytes given k. subst (λ (b : List ℕ). SoAt y.awaits b given (state y)) (append-nil (bytes ++ (line ++ 10 ∷ [])))
      (h.so (bytes ++ (line ++ 10 ∷ [])) given (to_section given bytes line (state x) (state w) k 0 (after given k.scenario k.stands))))

  -- it is the last one
  pub takes_last : (w : Session) (last : Last) → w.taken ≡ x.taken + (length line + 1) → ((given : List ℕ) (s : Scenario) → Stands given s (state x) → After given s line (state w) (taken.Ends last))
      → (y : Session) → HasFinished w last y → Takes x (line ++ 10 ∷ []) y
  takes_last w last taken_so after y h =
      takes_by y (h.taken ∙ taken_so) (subst (λ (a : Awaits). IsAwaiting a y.taken y.play.reader y.stage.world) (sym h.awaits) tt)
      (λ bytes given k. subst (λ (a : Awaits). SoAt a (bytes ++ (line ++ 10 ∷ [])) given (state y)) (sym h.awaits)
      (finishes given (bytes ++ (line ++ 10 ∷ [])) w y last h (line_over given bytes line (state x) (state w) k last (after given k.scenario k.stands))
      (line_agrees given bytes line (state x) (state w) k last (after given k.scenario k.stands))))

-- a section

module _ (x : Session) (section : List ℕ) where
  -- the next line is wanted
  pub ends_section : (y : Session) → y.taken ≡ x.taken → y.awaits ≡ Line → y.play.reader ≡ x.play.reader → IsReady y.play.reader.roster y.stage.world
      → x.play.reader.lines ≤ x.taken → IsBehindDeclarations x.play.reader.roster
      → ((given : List ℕ) (s : Scenario) (line : List ℕ) → AtSection given s line (length section) (state x) → AfterSection given s line section (state y) None) → EndsSection x section y
  ends_section y taken_so is reader ready lines behind after = record {
    taken = taken_so;
    awaiting = subst (λ (a : Awaits). IsAwaiting a y.taken y.play.reader y.stage.world) (sym is) (
      steady_of y.play.reader.roster y.stage.world ready (subst (λ (r : ReaderState). IsBehindDeclarations r.roster) (sym reader) behind),
      omega (arith, lines, taken_so, ap (λ (r : ReaderState). r.lines) reader),
    );
    so = λ bytes given h. subst (λ (a : Awaits). SoAt a (bytes ++ section) given (state y)) (sym is) (section_on given bytes section (state x) (state y) h (after given h.scenario h.line h.at));
  }

  -- it is broken
  pub breaks_section : (w : Session) (last : Last) → w.taken ≡ x.taken
      → ((given : List ℕ) (s : Scenario) (line : List ℕ) → AtSection given s line (length section) (state x) → AfterSection given s line section (state w) (Some last))
      → (y : Session) → HasFinished w last y → EndsSection x section y
  breaks_section w last taken_so after y h = record {
    taken = h.taken ∙ taken_so;
    awaiting = subst (λ (a : Awaits). IsAwaiting a y.taken y.play.reader y.stage.world) (sym h.awaits) tt;
    so = λ bytes given k. subst (λ (a : Awaits). SoAt a (bytes ++ section) given (state y)) (sym h.awaits)
        (finishes given (bytes ++ section) w y last h (section_over given bytes section (state x) (state w) k last (after given k.scenario k.line k.at))
        (section_agrees given bytes section (state x) (state w) k last (after given k.scenario k.line k.at)));
  }

more_taken : (a : Awaits) (n k : ℕ) (r : ReaderState) (w : Option World) → IsAwaiting a n r w → n ≤ k → IsAwaiting a k r w
more_taken Line n k r w h more = (h.0, omega (arith, h.1, more))
more_taken (Section m) n k r w h more = (h.0, omega (arith, h.1, more), h.2, h.3)
more_taken (Nothing well) n k r w h more = tt

module _ (x : Session) (section : List ℕ) (sound : IsSound x) (wanted : IsSectionWanted x section) where
  pub section_awaiting : IsAwaiting (Section (length section)) x.taken x.play.reader x.stage.world
  section_awaiting = subst (λ (a : Awaits). IsAwaiting a x.taken x.play.reader x.stage.world) wanted.awaits sound.awaiting

  pub takes_section : (y : Session) → EndsSection x section y → Takes x section (record y { taken = y.taken + length section })
  takes_section y h = record {
    sound = record { most = omega (arith, h.taken, wanted.room); awaiting = more_taken y.awaits y.taken (y.taken + length section) y.play.reader y.stage.world h.awaiting (omega arith) };
    at = λ bytes given k. record {
      taken = omega (arith, h.taken, k.taken, length-append bytes section);
      so = h.so bytes given (subst (λ (a : Awaits). SoAt a bytes given (state x)) wanted.awaits k.so).1;
    };
  }
