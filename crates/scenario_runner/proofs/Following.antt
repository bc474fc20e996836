-- A session goes on with a line.
use Rattle.std.proofs.Common.{◌≡◌, ℕ, List, [], ◌∷◌, ◌++◌, None, Some, Option, Result, Ok, Err, refl, sym, ◌∙◌, ap, subst, codes}
use Rattle.std.proofs.lemmas.List.{append-nil}
use Rattle.br_model.specs.declared.scenario.LineWhy.{LineWhy}
use Rattle.br_model.specs.declared.scenario.Said.{Said}
use Rattle.br_model.specs.declared.scenario.Said.TheVariants.{Does, Ends}
use Rattle.br_model.specs.declared.steps.Step.{Step}
use Rattle.br_model.specs.Plane.Runs.{run, then_step}
use Rattle.br_model.specs.Plane.Steps.{world_step}
use Rattle.br_model.specs.Plane.World.{World, Stepped, first_world}
use Rattle.br_model.specs.Text.Roster.{Roster}
use Rattle.br_model.specs.Program.Runs.{run_of, setup_of, body_of}
use Rattle.br_model.specs.Text.Scenario.{Scenario, bad, takes, whole_says}
use Rattle.br_model.specs.Table.Setup.{Setup}
use Rattle.br_model.specs.Text.Transcript.{text}
use Rattle.br_model.proofs.Program.SameRuns.{no_steps, same_run}
use Rattle.br_model.proofs.Plane.Running.{run_push, run_none, text-append}
use Rattle.scenario_reader.specs.declared.reader.Last.{Last}
use Rattle.scenario_reader.specs.declared.reader.Next.TheVariants as read
use Rattle.scenario_reader.specs.Reading as reading
use Rattle.scenario_reader.specs.Reading.{KeepsSetup, ReaderState, captures, ending_of}
use Rattle.scenario_runner.specs.declared.session.Next.TheVariants as nexts
use Rattle.scenario_runner.specs.declared.session.Session.{Session}
use Rattle.run_world.specs.declared.voice.Voice.{Voice}
use Rattle.scenario_runner.specs.Session as session
use Rattle.scenario_runner.specs.Session.{Agrees, EndsBy, Follows, IsAmongSteps, IsSaid, IsWorld, Took, Went, world_of}
use Rattle.run_world.proofs.Saying.{says_none, says_on}

-- lines without a step

-- what was said stays said
pub said_on : (s t : Scenario) (v : Voice) → IsSaid s v → t.steps ≡ s.steps → setup_of t.roster ≡ setup_of s.roster → IsSaid t v
said_on s t v h e p = says_on v (setup_of s.roster) (setup_of t.roster) s.steps t.steps p e h

-- what stays of a roster that stays
pub kept : (r q : Roster) → q ≡ r → KeepsSetup r q
kept r q e = subst (KeepsSetup r) (sym e) (refl, λ b. (b, (refl, refl)))

-- No step came. Where there is a world, nothing of the setup came; where there is none, nothing was done yet.
module _ (s t : Scenario) (none : t.steps ≡ s.steps) (keeps : KeepsSetup s.roster t.roster) where
  pub quiet : (w : Option World) → IsWorld s w → IsWorld t w
  quiet None h = none ∙ h
  quiet (Some w) h = let k = keeps.1 h.1 in (h.0 ∙ sym (ap (λ (x : Stepped). x.0) (same_run s t k.1.0 none)), k.0)

  pub quiet_said : (w : Option World) (v : Voice) → IsWorld s w → IsSaid s v → IsSaid t v
  quiet_said None v h said =
      says_on v (setup_of t.roster) (setup_of t.roster) [] t.steps refl (none ∙ h)
      (says_none v (setup_of s.roster) (setup_of t.roster) (says_on v (setup_of s.roster) (setup_of s.roster) s.steps [] refl (sym h) said))
  quiet_said (Some w) v h said = said_on s t v said none (keeps.1 h.1).1.0

  pub same_body : (w : Option World) → IsWorld s w → body_of (run_of t) ≡ body_of (run_of s)
  same_body None h = no_steps t (none ∙ h) ∙ sym (no_steps s h)
  same_body (Some w) h = ap body_of (same_run s t (keeps.1 h.1).1.0 none)

-- a step

-- the world before it
world_before : (s : Scenario) (w : Option World) → IsWorld s w → world_of s.roster w ≡ (run_of s).0
world_before s None h = sym (ap (λ (x : Stepped). x.0) (ap (run (setup_of s.roster)) h ∙ run_none (setup_of s.roster)))
world_before s (Some w) h = h.0

-- the run with one step more
goes_on : (s t : Scenario) (step : Step) → t.steps ≡ s.steps ++ step ∷ [] → setup_of t.roster ≡ setup_of s.roster → run_of t ≡ then_step (run_of s) step
goes_on s t step e p =
    ap (λ (x : Setup). run x t.steps) p ∙ ap (run (setup_of s.roster)) e ∙ run_push (setup_of s.roster) s.steps step

world_after : (s t : Scenario) (w : Option World) (step : Step) → IsWorld s w → t.steps ≡ s.steps ++ step ∷ [] → setup_of t.roster ≡ setup_of s.roster → IsAmongSteps t
    → IsWorld t (Some (world_step (world_of s.roster w) step).0)
world_after s t w step h e p place =
    (ap (λ (v : World). (world_step v step).0) (world_before s w h) ∙ sym (ap (λ (x : Stepped). x.0) (goes_on s t step e p)), place)

body_after : (s t : Scenario) (w : Option World) (step : Step) → IsWorld s w → t.steps ≡ s.steps ++ step ∷ [] → setup_of t.roster ≡ setup_of s.roster
    → body_of (run_of t) ≡ body_of (run_of s) ++ text (world_step (world_of s.roster w) step).1
body_after s t w step h e p =
    ap body_of (goes_on s t step e p)
    ∙ ap (λ (x : List ℕ). codes "transcript 1" ++ 10 ∷ x) (text-append (run_of s).1 (world_step (run_of s).0 step).1)
    ∙ ap (λ (v : World). body_of (run_of s) ++ text (world_step v step).1) (sym (world_before s w h))

-- done after a line, or after others of a section
pub did_step : (s t : Scenario) (x y : Session) (before after : List ℕ) (step : Step) → IsWorld s x.world → IsSaid s x.voice → reading.Follows t x.reader
    → t.steps ≡ s.steps ++ step ∷ [] → setup_of t.roster ≡ setup_of s.roster → IsAmongSteps t → session.Does x step before y after → Went s t before y after
did_step s t x y before after step world said reads steps same place does =
    let setup : world_of x.reader.roster x.world ≡ world_of s.roster x.world = setup_only x.world (ap setup_of reads.roster ∙ same) in record {
      follows = record {
        reads = subst (reading.Follows t) (sym does.reader) reads;
        world = subst (λ (w : Option World). IsWorld t w) (sym (does.world ∙ ap (λ (v : World). Some (world_step v step).0) setup)) (world_after s t x.world step world steps same place);
        said = says_on y.voice (setup_of s.roster) (setup_of t.roster) (s.steps ++ step ∷ []) t.steps same steps (does.says s world (ap setup_of reads.roster ∙ same) said);
      };
      added = text (world_step (world_of s.roster x.world) step).1;
      text = does.text ∙ ap (λ (v : World). before ++ text (world_step v step).1) setup;
      body = body_after s t x.world step world steps same;
    }
  where
    setup_only : (w : Option World) → setup_of x.reader.roster ≡ setup_of s.roster → world_of x.reader.roster w ≡ world_of s.roster w
    setup_only None p = ap first_world p
    setup_only (Some w) p = refl

-- how a session ends

pub agrees : (s : Scenario) (x : Session) → Follows s x → Agrees s x
agrees s x f = record { ports = ap (λ (q : Roster). q.ports) f.reads.roster; world = f.world; said = f.said }

pub agrees_badly : (s : Scenario) (x : Session) (why : LineWhy) → Agrees s x → Agrees (bad s why) x
agrees_badly s x why h = record { ports = h.ports; world = quiet s (bad s why) refl (kept s.roster s.roster refl) x.world h.world; said = h.said }

-- each line, by what the reader says of it

module _ (s : Scenario) (line : List ℕ) (x : Session) (r : ReaderState) (before : List ℕ) (f : Follows s x) where
  abbrev after : Session
  after = record x { reader = r }

  -- a line without a step, after which the scenario goes on
  went_on : (t : Scenario) → t.steps ≡ s.steps → reading.Follows t r → KeepsSetup s.roster t.roster → Went s t before after before
  went_on t none reads keeps = record {
    follows = record { reads = reads; world = quiet s t none keeps x.world f.world; said = quiet_said s t none keeps x.world x.voice f.world f.said };
    added = [];
    text = sym (append-nil before);
    body = same_body s t none keeps x.world f.world ∙ sym (append-nil (body_of (run_of s)));
  }

  ends_by : (o : Result Said LineWhy) (last : Last) → reading.EndsBy s o last → r.roster ≡ s.roster → EndsBy s o before after before last
  ends_by (Err why) last is same = record {
    agrees = agrees_badly s after why (record { ports = ap (λ (q : Roster). q.ports) same; world = f.world; said = f.said });
    ends = sym (ap ending_of is);
    text = refl;
    body = ap body_of (same_run s (bad s why) refl refl);
  }
  ends_by (Ok what) last is same =
      let t : Scenario = takes s Ends [] in
      let none : t.steps ≡ s.steps = append-nil s.steps in
      let keeps : KeepsSetup s.roster t.roster = kept s.roster t.roster refl in
      subst (λ (w : Said). EndsBy s (Ok w) before after before last) (sym is.0) (
        refl,
        record {
          agrees = record { ports = ap (λ (q : Roster). q.ports) same; world = quiet s t none keeps x.world f.world; said = quiet_said s t none keeps x.world x.voice f.world f.said };
          ends = sym (ap ending_of is.1);
          text = refl;
          body = same_body s t none keeps x.world f.world;
        },
      )

  -- but a step
  pub took_line : reading.Took s line r read.Line → Took s line before after before nexts.Line
  took_line h = (h.0, h.1, h.2, went_on (takes s h.0 []) h.3 h.4 (subst (KeepsSetup s.roster) h.4.roster h.5))

  pub took_section : (n : ℕ) → reading.Took s line r (read.Section n) → Took s line before after before (nexts.Section n)
  took_section n h = (h.0, h.1, f.world, went_on (captures s n) (append-nil s.steps) h.2 (refl, λ b. ((refl, refl), (refl, refl))))

  pub took_last : (last : Last) → reading.Took s line r (read.End last) → Took s line before after before (nexts.End last)
  took_last last h = ends_by (whole_says s.roster line) last h.0 h.1

  -- and that, once it is done
  pub took_step : (y : Session) (told : List ℕ) (step : Step) → reading.Took s line r (read.Step step) → session.Does after step before y told → Took s line before y told nexts.Line
  took_step y told step h does =
      (Does step, h.0, refl, did_step s (takes s (Does step) []) after y before told step f.world f.said h.1 refl refl (refl, refl) does)
