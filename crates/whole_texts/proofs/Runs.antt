-- A whole scenario is run step by step.
use Rattle.std.proofs.Common.{◌≡◌, ℕ, true, false, is_some, List, [], ◌∷◌, ◌++◌, length, Option, Some, refl, sym, ◌∙◌, ap, subst}
use Rattle.std.specs.List.{list_all}
use Rattle.br_model.specs.declared.steps.Step.{Step}
use Rattle.br_model.specs.declared.transcript.Line.{Line}
use Rattle.br_model.specs.Plane.Runs.{run}
use Rattle.br_model.specs.Plane.Steps.{world_step}
use Rattle.br_model.specs.Plane.World.{World, Stepped}
use Rattle.br_model.specs.Program.Runs.{setup_of}
use Rattle.br_model.specs.Table.Domains.{chip_domains}
use Rattle.br_model.specs.Table.Setup.{Setup}
use Rattle.br_model.specs.Text.Declarations.{are_declared}
use Rattle.br_model.specs.Text.LineForms.{comes_by_line}
use Rattle.br_model.specs.Text.Roster.{Roster, chips_of}
use Rattle.br_model.specs.Text.Scenario.{Scenario, scenario}
use Rattle.br_model.proofs.Plane.Applied.{step-setup}
use Rattle.br_model.proofs.Plane.Kept.{first-world, step-world}
use Rattle.br_model.proofs.Plane.Running.{run_none, run_push}
use Rattle.br_model.proofs.Text.DeclaredChips.{declared-chips}
use Rattle.scenario_reader.specs.declared.reader.Last.TheVariants.{Ended}
use Rattle.scenario_reader.specs.Whole.{SaysWhole, WholeState}
use Rattle.scenario_play.specs.Playing.{IsReady, world_of}
use Rattle.scenario_play.specs.Stages.{Begins, CanStep, InWorld, StepsTo}
use Rattle.scenario_play.proofs.Steps.{can_step, had_begun}
use Rattle.whole_texts.specs.Runs.{HasDone}
use Rattle.whole_texts.specs.Sessions.{Agrees}
use Rattle.whole_texts.specs.Stages.{lone}
use Rattle.whole_texts.proofs.Stages.{fits_lone}

-- before the first step
pub run_begins : (r : Roster) (x y : Option World) → are_declared r.ports ≡ true → Begins (lone x) (setup_of r) (lone y) → HasDone r [] (lone y)
run_begins r x y declared b = record {
  ready = subst (λ (o : Option World). IsReady r o) (sym b.world) (first-world (setup_of r), declared-chips r.edition r.ports declared);
  world = b.world ∙ ap (λ (z : Stepped). Some z.0) (sym (run_none (setup_of r)));
}

-- before another one
pub run_steps : (r : Roster) (steps : List Step) (x : Option World) (step : Step) → HasDone r steps (lone x) → comes_by_line r.check (chips_of r.ports) step ≡ true → CanStep (lone x) step
run_steps r steps x step h by_line =
    can_step r (lone x) (lone x) step (had_begun r (lone x) (ap is_some h.world) h.ready (fits_lone r.check)) by_line

ready_on : (r : Roster) (w : World) (step : Step) → IsReady r (Some w) → IsReady r (Some (world_step w step).0)
ready_on r w step h = (step-world w step h.0, ap (λ (s : Setup). chip_domains s.domains) (step-setup w step) ∙ h.1)

-- and behind it
pub run_goes_on : (r : Roster) (steps : List Step) (x y : Option World) (step : Step) (lines : List Line) → HasDone r steps (lone x) → StepsTo (lone x) step (lone y) lines
    → HasDone r (steps ++ step ∷ []) (lone y)
run_goes_on r steps x y step lines h t =
    let w : World = (run (setup_of r) steps).0 in
    let done : InWorld (Some w) step y lines = subst (λ (o : Option World). InWorld o step y lines) h.world t.world in record {
      ready = subst (λ (o : Option World). IsReady r o) (sym done.0) (ready_on r w step (subst (λ (o : Option World). IsReady r o) h.world h.ready));
      world = done.0 ∙ ap (λ (z : Stepped). Some z.0) (sym (run_push (setup_of r) steps step));
    }

pub none_left : (steps : List Step) → length steps ≡ 0 → steps ≡ []
none_left [] h = refl
none_left (step ∷ steps) h = absurd (cc)

-- what is read gives the steps
pub read_gives : (bytes : List ℕ) (x : WholeState) (r : Roster) (steps : List Step) → SaysWhole false bytes x → r ≡ x.roster → steps ≡ x.steps
    → list_all (comes_by_line r.check (chips_of r.ports)) steps ≡ true
read_gives bytes x r steps says same is =
    ap (λ (q : Roster). list_all (comes_by_line q.check (chips_of q.ports)) steps) same
    ∙ ap (λ (l : List Step). list_all (comes_by_line x.roster.check (chips_of x.roster.ports)) l) is
    ∙ ap (λ b. list_all (comes_by_line b (chips_of x.roster.ports)) x.steps) says.its_check
    ∙ says.by_line

pub run_agrees : (bytes : List ℕ) (x : WholeState) (r : Roster) (steps : List Step) (y : Option World) → r ≡ x.roster → steps ≡ x.steps → HasDone r steps (lone y) → SaysWhole false bytes x → x.close ≡ Ended
    → Agrees (scenario bytes) r (lone y)
run_agrees bytes x r steps y same is h says ended =
    let s : Scenario = scenario bytes in
    let roster : r ≡ s.roster = same ∙ says.roster ended in record {
      ports = ap (λ (q : Roster). q.ports) roster;
      world =
          ap (world_of s.roster) h.world
          ∙ ap (λ (q : Roster). (run (setup_of q) steps).0) roster
          ∙ ap (λ (l : List Step). (run (setup_of s.roster) l).0) (is ∙ says.steps);
    }
