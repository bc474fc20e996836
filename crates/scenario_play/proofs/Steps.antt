-- What is told as a scenario goes on: by lines without a step, and by steps.
use Rattle.std.proofs.Common.{◌≡◌, ℕ, ◌+◌, Bool, true, false, List, [], ◌∷◌, ◌++◌, length, Option, None, Some, Result, Ok, Err, OnOk, refl, sym, ◌∙◌, ap, subst, arith, codes}
use Rattle.std.proofs.Common.{append_assoc}
use Rattle.std.specs.Prelude.{IfSome}
use Rattle.std.specs.Option.{is_some}
use Rattle.std.proofs.lemmas.List.{append-nil}
use Rattle.br_model.specs.declared.scenario.Place.TheVariants as places
use Rattle.br_model.specs.declared.steps.Step.{Step}
use Rattle.br_model.specs.declared.steps.Step.TheVariants.{Rx, Cmd, Now, Serve, Hold, Post, Turn, Report, Sweep, Publish}
use Rattle.br_model.specs.declared.transcript.Line.{Line}
use Rattle.br_model.specs.Plane.Runs.{end_line, run, then_step}
use Rattle.br_model.specs.Plane.Steps.{world_step}
use Rattle.br_model.specs.Plane.World.{World, Stepped, first_world}
use Rattle.br_model.specs.Program.Runs.{body_of, last_text, run_of, setup_of, told}
use Rattle.br_model.specs.Table.Domains.{chip_domains}
use Rattle.br_model.specs.Table.Setup.{Setup}
use Rattle.br_model.specs.Text.Declarations.{are_declared}
use Rattle.br_model.specs.Text.LineForms.{comes_by_line}
use Rattle.br_model.specs.Text.Roster.{Roster, chips_of, first_roster}
use Rattle.br_model.specs.Text.Scenario.{Scenario, Ending, Going, opened, scenario}
use Rattle.br_model.specs.Text.Transcript.{line_text, text}
use Rattle.br_model.specs.Theorems.Invariants.{IsWorld}
use Rattle.plane_parts.specs.Added.{Added}
use Rattle.br_model.proofs.Plane.Applied.{step-setup}
use Rattle.br_model.proofs.Plane.Kept.{first-world, step-world}
use Rattle.br_model.proofs.Plane.Running.{run_none, run_push, text-append}
use Rattle.br_model.proofs.Program.SameRuns.{no_steps, no_steps_end, same_run}
use Rattle.br_model.proofs.Text.DeclaredChips.{declared-chips}
use Rattle.scenario_reader.specs.declared.reader.Last.{Last}
use Rattle.scenario_reader.specs.declared.reader.Last.TheVariants as lasts
use Rattle.scenario_reader.specs.Reading.{Follows, IsBehindDeclarations, KeepsSetup, ReaderState, ending_of}
use Rattle.scenario_play.specs.Playing.{AlsoIn, Played, Does, DoesAll, Fits, HasBegun, HasRun, IsDone, IsOver, IsReady, IsSteady, IsTold, Stands, last_line, with_steps, world_of}
use Rattle.scenario_play.specs.Stages.{Begins, CanIn, CanStep, InWorld, Keeps, Standing, StepsTo, end_line_of}

-- without a step

pub kept : (r : Roster) → KeepsSetup r r
kept r = (refl, λ behind. (behind, (refl, refl)))

-- the setup and the steps are the same then
ran_moved : (s t : Scenario) (w : Option World) → t.steps ≡ s.steps → KeepsSetup s.roster t.roster → HasRun s w → HasRun t w
ran_moved s t None steps keeps h = steps ∙ h
ran_moved s t (Some w) steps keeps h = let k = keeps.1 h.1 in (h.0 ∙ sym (ap (λ (x : Stepped). x.0) (same_run s t k.1.0 steps)), k.0)

body_moved : (s t : Scenario) (w : Option World) → t.steps ≡ s.steps → KeepsSetup s.roster t.roster → HasRun s w → body_of (run_of s) ≡ body_of (run_of t)
body_moved s t None steps keeps h = no_steps s h ∙ sym (no_steps t (steps ∙ h))
body_moved s t (Some w) steps keeps h = sym (ap body_of (same_run s t (keeps.1 h.1).1.0 steps))

-- the same ports make the same chips
pub ready_at : (r q : Roster) (w : Option World) → q.ports ≡ r.ports → IsReady r w → IsReady q w
ready_at r q None same h = tt
ready_at r q (Some w) same h = (h.0, h.1 ∙ sym (ap chips_of same))

ready_moved : (s t : Scenario) (w : Option World) → KeepsSetup s.roster t.roster → HasRun s w → IsReady s.roster w → IsReady t.roster w
ready_moved s t None keeps ran h = tt
ready_moved s t (Some w) keeps ran h = ready_at s.roster t.roster (Some w) (keeps.1 ran.1).1.1 h

also_moved : (s t : Scenario) (w : Option World) (also : Setup → List Step → Type 0) → t.steps ≡ s.steps → KeepsSetup s.roster t.roster → HasRun s w → AlsoIn w also s → AlsoIn w also t
also_moved s t None also steps keeps ran h = tt
also_moved s t (Some w) also steps keeps ran h =
    subst (λ (l : List Step). also (setup_of t.roster) l) (sym steps) (subst (λ (u : Setup). also u s.steps) (sym (keeps.1 ran.1).1.0) h)

-- what is told then stays
pub moved : (given : List ℕ) (s t : Scenario) (x : Standing) (all : List ℕ) → t.steps ≡ s.steps → KeepsSetup s.roster t.roster → IsTold given s x all → IsTold given t x all
moved given s t x all steps keeps h = record {
  ran = ran_moved s t x.world steps keeps h.ran;
  ready = ready_moved s t x.world keeps h.ran h.ready;
  also = also_moved s t x.world x.also steps keeps h.ran h.also;
  body = h.body ∙ body_moved s t x.world steps keeps h.ran;
}

-- where no port can be declared any more
pub steady_of : (r : Roster) (w : Option World) → IsReady r w → IsBehindDeclarations r → IsSteady r w
steady_of r None h behind = tt
steady_of r (Some w) h behind = (h, behind)

pub ready_of : (r : Roster) (w : Option World) → IsSteady r w → IsReady r w
ready_of r None h = tt
ready_of r (Some w) h = h.0

-- after a line that says no step
pub steady_kept : (r q : Roster) (w : Option World) → KeepsSetup r q → IsSteady r w → IsSteady q w
steady_kept r q None keeps h = tt
steady_kept r q (Some w) keeps h = let k = keeps.1 h.1 in ((h.0.0, h.0.1 ∙ sym (ap chips_of k.1.1)), k.0)

pub fits_at : (r q : Roster) (x : Standing) → q.check ≡ r.check → Fits r x → Fits q x
fits_at r q x same h = (λ c. same ∙ h.0 c, h.1)

pub steady_by : (given : List ℕ) (s : Scenario) (x : Played) → Stands given s x → IsSteady x.reader.roster x.stage.world
steady_by given s x h = subst (λ (r : Roster). IsSteady r x.stage.world) (sym h.follows.roster) (by x.stage.world h.so.ran h.so.ready)
  where
    by : (w : Option World) → HasRun s w → IsReady s.roster w → IsSteady s.roster w
    by None ran ready = tt
    by (Some w) ran ready = (ready, ran.1)

pub stands_by : (r : Roster) (w : Option World) → IsReady r w → IfSome w IsWorld
stands_by r None h = tt
stands_by r (Some w) h = h.0

-- before the first line
pub begins : (check : Bool) (x : Played) → x.reader ≡ record { lines = 0; roster = first_roster check } → x.stage.world ≡ None → x.text ≡ codes "transcript 1" ++ 10 ∷ []
    → Stands [] (opened check) x
begins check x reader world all = record {
  follows = subst (λ (r : ReaderState). Follows (opened check) r) (sym reader) (record { lines = refl; roster = refl; going = refl });
  so = record {
    ran = subst (λ (w : Option World). HasRun (opened check) w) (sym world) refl;
    ready = subst (λ (w : Option World). IsReady (first_roster check) w) (sym world) tt;
    also = subst (λ (w : Option World). AlsoIn w x.stage.also (opened check)) (sym world) tt;
    body = all ∙ sym (no_steps (opened check) refl);
  };
}

-- some of the text is given away
pub gone : (given : List ℕ) (s : Scenario) (x : Played) (before rest : List ℕ) → x.text ≡ before ++ rest → Stands given s x
    → Stands (given ++ before) s (record { reader = x.reader; stage = x.stage; text = rest })
gone given s x before rest is h = record {
  follows = h.follows;
  so = record {
    ran = h.so.ran;
    ready = h.so.ready;
    also = h.so.also;
    body = append_assoc given before rest ∙ ap (λ (b : List ℕ). given ++ b) (sym is) ∙ h.so.body;
  };
}

-- in front of the steps of a line
abbrev pub among : Scenario → Scenario
among s = record { lines = s.lines + 1; roster = record s.roster { place = places.Steps }; steps = s.steps; ending = Going }

pub among_stands : (given : List ℕ) (s : Scenario) (x : Played) → x.reader.lines ≡ s.lines + 1 → x.reader.roster ≡ record s.roster { place = places.Steps }
    → IsTold given s x.stage x.text → Stands given (among s) x
among_stands given s x lines roster h = record {
  follows = record { lines = lines; roster = roster; going = refl };
  so = moved given s (among s) x.stage x.text refl (refl, λ b. ((refl, refl), (refl, refl))) h;
}

-- the world of a step

-- what a line of a replay gives, a line of a check can give
given_more : (check : Bool) (chips : List ℕ) (s : Step) → comes_by_line check chips s ≡ true → comes_by_line true chips s ≡ true
given_more check chips (Rx port bytes) h = refl
given_more check chips (Cmd command) h = refl
given_more check chips (Now moment) h = h
given_more check chips Serve h = refl
given_more check chips Hold h = refl
given_more check chips (Post id None) h = refl
given_more check chips (Post id (Some point)) h = refl
given_more check chips (Turn dom) h = h
given_more check chips (Report dom) h = h
given_more check chips (Sweep dom) h = h
given_more check chips Publish h = refl

-- and a stage that does what a check gives does both
given_at : (checks check : Bool) (chips : List ℕ) (step : Step) → (checks ≡ false → check ≡ false) → comes_by_line check chips step ≡ true → comes_by_line checks chips step ≡ true
given_at true check chips step fit h = given_more check chips step h
given_at false check chips step fit h = ap (λ (b : Bool). comes_by_line b chips step) (sym (fit refl)) ∙ h

can_in : (checks : Bool) (r : Roster) (o : Option World) (w : World) (step : Step) → o ≡ Some w → IsReady r o → (checks ≡ false → r.check ≡ false)
    → comes_by_line r.check (chips_of r.ports) step ≡ true → CanIn checks o step
can_in checks r None w step is ready fit by_line = absurd (cc is)
can_in checks r (Some v) w step is ready fit by_line =
    (ready.0, ap (λ (l : List ℕ). comes_by_line checks l step) ready.1 ∙ given_at checks r.check (chips_of r.ports) step fit by_line)

pub can_step : (r : Roster) (old mid : Standing) (step : Step) → HasBegun r old mid → comes_by_line r.check (chips_of r.ports) step ≡ true → CanStep mid step
can_step r old mid step b by_line = record { sound = b.fits.1; can = can_in mid.checks r mid.world (world_of r old.world) step b.world b.ready b.fits.0 by_line }

world_is : (r : Roster) (o : Option World) → is_some o ≡ true → o ≡ Some (world_of r o)
world_is r None h = absurd (cc h)
world_is r (Some w) h = refl

also_is : (o : Option World) (also : Setup → List Step → Type 0) (s : Scenario) → is_some o ≡ true → AlsoIn o also s → also (setup_of s.roster) s.steps
also_is None also s some h = absurd (cc some)
also_is (Some w) also s some h = h

-- a world that was there stays
pub had_begun : (r : Roster) (x : Standing) → is_some x.world ≡ true → IsReady r x.world → Fits r x → HasBegun r x x
had_begun r x some ready fits = record {
  world = world_is r x.world some;
  ready = ready;
  fits = fits;
  keeps = record { checks = refl; says = refl };
  also = λ s ran setup h. also_is x.world x.also s some h;
}

fits_kept : (r : Roster) (x y : Standing) → Keeps x y → y.sound → Fits r x → Fits r y
fits_kept r x y keeps sound h = (λ c. h.0 (sym keeps.checks ∙ c), sound)

none_of : (o : Option World) → is_some o ≡ false → o ≡ None
none_of None h = refl
none_of (Some w) h = absurd (cc h)

pub is_first : (o : Option World) (b : Bool) → b ≡ is_some o → b ≡ false → o ≡ None
is_first o b is h = none_of o (sym is ∙ h)

begun_one : (r : Roster) (old new : Standing) (setup : Setup) → setup ≡ setup_of r → are_declared r.ports ≡ true → old.world ≡ None → Fits r old → Begins old setup new → HasBegun r old new
begun_one r old new setup is declared none fits b =
    let made : new.world ≡ Some (first_world (setup_of r)) = b.world ∙ ap (λ (u : Setup). Some (first_world u)) is in record {
      world = made ∙ ap (λ (o : Option World). Some (world_of r o)) (sym none);
      ready = subst (λ (o : Option World). IsReady r o) (sym made) (first-world (setup_of r), declared-chips r.edition r.ports declared);
      fits = fits_kept r old new b.keeps b.sound fits;
      keeps = b.keeps;
      also = λ s ran same h.
          subst (λ (l : List Step). new.also (setup_of s.roster) l) (sym (subst (λ (o : Option World). HasRun s o) none ran))
          (subst (λ (u : Setup). new.also u []) (is ∙ same) b.also);
    }

-- a world was made
pub has_begun : {A E : Type 0} (x : Result A E) (r : Roster) (old new : Standing) (setup : Setup) → setup ≡ setup_of r → are_declared r.ports ≡ true → old.world ≡ None → Fits r old
    → OnOk x (Begins old setup new) → OnOk x (HasBegun r old new)
has_begun (Ok x) r old new setup is declared none fits b = begun_one r old new setup is declared none fits b
has_begun (Err e) r old new setup is declared none fits b = b

world_same : (r q : Roster) (o : Option World) → setup_of r ≡ setup_of q → world_of r o ≡ world_of q o
world_same r q None h = ap first_world h
world_same r q (Some w) h = refl

pub world_before : (s : Scenario) (w : Option World) → HasRun s w → world_of s.roster w ≡ (run_of s).0
world_before s None h = sym (ap (λ (x : Stepped). x.0) (ap (run (setup_of s.roster)) h ∙ run_none (setup_of s.roster)))
world_before s (Some w) h = h.0

pub keeps_on : (x y z : Standing) → Keeps x y → Keeps y z → Keeps x z
keeps_on x y z h k = record { checks = k.checks ∙ h.checks; says = k.says ∙ h.says }

done_one : (r : Roster) (old mid new : Standing) (step : Step) (lines : List Line) → HasBegun r old mid → StepsTo mid step new lines → IsDone r old step new lines
done_one r old mid new step lines b t =
    let w : World = world_of r old.world in
    let ready : IsReady r (Some w) = subst (λ (o : Option World). IsReady r o) b.world b.ready in
    let done : InWorld (Some w) step new.world lines = subst (λ (o : Option World). InWorld o step new.world lines) b.world t.world in record {
      ready =
          subst (λ (o : Option World). IsReady r o) (sym done.0) (step-world w step ready.0, ap (λ (s : Setup). chip_domains s.domains) (step-setup w step) ∙ ready.1);
      fits = fits_kept r mid new t.keeps t.sound b.fits;
      keeps = keeps_on old mid new b.keeps t.keeps;
      world = done.0;
      lines = done.1;
      also = λ s ran same h.
          t.also (setup_of s.roster) s.steps (b.world ∙ ap Some (world_same r s.roster old.world same ∙ world_before s old.world ran)) (b.also s ran same h);
    }

-- a step was done, its lines alone are told
pub done_told : {A E : Type 0} (x : Result A E) (r : Roster) (old mid new : Standing) (step : Step) (before after : List Line) → HasBegun r old mid → before ≡ []
    → OnOk x (Added (StepsTo mid step new) before after) → OnOk x (IsDone r old step new after)
done_told (Ok x) r old mid new step before after b none told =
    subst (λ (l : List Line). IsDone r old step new l) (sym (told.added ∙ ap (λ (l : List Line). l ++ told.lines) none)) (done_one r old mid new step told.lines b told.so)
done_told (Err e) r old mid new step before after b none told = told

-- and written
pub does_written : (x y : Played) (step : Step) (lines : List Line) → y.reader ≡ x.reader → IsDone x.reader.roster x.stage step y.stage lines → y.text ≡ x.text ++ text lines → Does x step y
does_written x y step lines reader d is =
    record { reader = reader; done = subst (λ (l : List Line). IsDone x.reader.roster x.stage step y.stage l) d.lines d; text = is ∙ ap (λ (l : List Line). x.text ++ text l) d.lines }

pub does_cut : {A E : Type 0} (cut appended : Result A E) (x y : Played) (step : Step) (lines : List Line) (whole : List ℕ) → cut ≡ appended → OnOk cut (y.text ≡ whole)
    → OnOk appended (whole ≡ x.text ++ text lines) → y.reader ≡ x.reader → IsDone x.reader.roster x.stage step y.stage lines → OnOk cut (Does x step y)
does_cut {A} {E} (Ok a) appended x y step lines whole same is wrote reader d =
    does_written x y step lines reader d (is ∙ subst (λ (r : Result A E). OnOk r (whole ≡ x.text ++ text lines)) (sym same) wrote)
does_cut (Err e) appended x y step lines whole same is wrote reader d = is

pub does_ready : (x y : Played) (step : Step) → Does x step y → IsReady y.reader.roster y.stage.world
does_ready x y step d = subst (λ (r : ReaderState). IsReady r.roster y.stage.world) (sym d.reader) d.done.ready

pub does_fits : (x y : Played) (step : Step) → Does x step y → Fits y.reader.roster y.stage
does_fits x y step d = fits_at x.reader.roster y.reader.roster y.stage (ap (λ (r : ReaderState). r.roster.check) d.reader) d.done.fits

-- steps

body_more : (s : Scenario) (step : Step) → body_of (run_of (with_steps s (step ∷ []))) ≡ body_of (run_of s) ++ text (world_step (run_of s).0 step).1
body_more s step =
    ap body_of (run_push (setup_of s.roster) s.steps step)
    ∙ ap (λ (x : List ℕ). codes "transcript 1" ++ 10 ∷ x) (text-append (run_of s).1 (world_step (run_of s).0 step).1)

pub does_one : (given : List ℕ) (s : Scenario) (x y : Played) (step : Step) → IsBehindDeclarations s.roster → Stands given s x → Does x step y → Stands given (with_steps s (step ∷ [])) y
does_one given s x y step behind h d =
    let t : Scenario = with_steps s (step ∷ []) in
    let w : World = world_of x.reader.roster x.stage.world in
    let here : w ≡ (run_of s).0 = ap (λ (r : Roster). world_of r x.stage.world) h.follows.roster ∙ world_before s x.stage.world h.so.ran in
    let more : run_of t ≡ then_step (run_of s) step = run_push (setup_of s.roster) s.steps step in record {
      follows = subst (λ (r : ReaderState). Follows t r) (sym d.reader) (record { lines = h.follows.lines; roster = h.follows.roster; going = h.follows.going });
      so = record {
        ran = subst (λ (o : Option World). HasRun t o) (sym d.done.world) (ap (λ (v : World). (world_step v step).0) here ∙ sym (ap (λ (z : Stepped). z.0) more), behind);
        ready = subst (λ (r : Roster). IsReady r y.stage.world) h.follows.roster d.done.ready;
        also = subst (λ (o : Option World). AlsoIn o y.stage.also t) (sym d.done.world) (d.done.also s h.so.ran (ap setup_of h.follows.roster) h.so.also);
        body =
            ap (λ (b : List ℕ). given ++ b) d.text
            ∙ sym (append_assoc given x.text (text (world_step w step).1))
            ∙ ap (λ (b : List ℕ). b ++ text (world_step w step).1) h.so.body
            ∙ ap (λ (v : World). body_of (run_of s) ++ text (world_step v step).1) here
            ∙ sym (body_more s step);
      };
    }

pub does_none : (x : Played) → DoesAll x [] x
does_none x given s behind h = record {
  follows = record { lines = h.follows.lines; roster = h.follows.roster; going = h.follows.going };
  so = moved given s (with_steps s []) x.stage x.text (append-nil s.steps) (kept s.roster) h.so;
}

pub does_more : (x y z : Played) (steps : List Step) (step : Step) → DoesAll x steps y → Does y step z → DoesAll x (steps ++ step ∷ []) z
does_more x y z steps step does d given s behind h =
    subst (λ (l : List Step). Stands given (record s { steps = l }) z) (append_assoc s.steps steps (step ∷ [])) (does_one given (with_steps s steps) y z step behind (does given s behind h) d)

pub nothing_left : (steps : List Step) → length steps ≡ 0 → steps ≡ []
nothing_left [] h = refl
nothing_left (step ∷ steps) h = absurd (omega (arith, h))

-- the last line

last_world : (s : Scenario) (w : Option World) → HasRun s w → end_line_of w ≡ end_line (run_of s).0
last_world s None h = sym (no_steps_end s h)
last_world s (Some w) h = ap end_line h.0

last_is : (s : Scenario) (w : Option World) (last : Last) → HasRun s w → last_line last w ≡ last_text (ending_of last) (run_of s).0
last_is s w lasts.Ended h = ap line_text (last_world s w h)
last_is s w (lasts.Bad n why) h = refl

pub told_is : (given bytes : List ℕ) (x : Standing) (all : List ℕ) (last : Last) → IsOver given (scenario bytes) x all last → given ++ (all ++ last_line last x.world) ≡ told bytes
unfolding told
told_is given bytes x all last h =
    sym (append_assoc given all (last_line last x.world))
    ∙ ap (λ (b : List ℕ). b ++ last_line last x.world) h.so.body
    ∙ ap (λ (b : List ℕ). body_of (run_of (scenario bytes)) ++ b)
    (last_is (scenario bytes) x.world last h.so.ran ∙ ap (λ (d : Ending). last_text d (run_of (scenario bytes)).0) (sym h.ends))
