-- A run on one thread is a live run.
use Rattle.std.proofs.Common.{◌≡◌, ℕ, true, false, if◌then◌else◌, List, [], ◌∷◌, ◌++◌, refl, sym, ◌∙◌, ap, ap₂, subst, append_assoc, append-nil}
use Rattle.std.specs.List.{filter, list_all}
use Rattle.std.proofs.lemmas.List.Elements.{filter-append}
use Rattle.br_model.specs.declared.steps.Step.{Step}
use Rattle.br_model.specs.declared.steps.Step.TheVariants.{Rx}
use Rattle.br_model.specs.Plane.Runs.{run}
use Rattle.br_model.specs.Plane.World.{World}
use Rattle.br_model.specs.Program.LiveRun.{accepts_changes, frames_at, from_frame, is_drained, is_frame_at, is_live_run, is_ordered, may_drain, until_frame}
use Rattle.br_model.specs.Program.Runs.{setup_of}
use Rattle.br_model.specs.Table.Setup.{Setup}
use Rattle.br_model.specs.Text.Scenario.{Scenario}
use Rattle.br_model.specs.Program.LiveRules.{IsLiveRun}
use Rattle.br_model.proofs.Program.LiveRuns.{is_live}
use Rattle.br_model.proofs.Plane.Worlds.{worlds, run_worlds}
use Rattle.std.specs.Cmp.{first_so, second_so}
use Rattle.plane_record.specs.Pasts.{Past, world_of}
use Rattle.live_thread.specs.Draining.{Drained}
use Rattle.live_thread.specs.Taking.{Takes, behind}
use Rattle.live_thread.proofs.Openings.{all_kept}
use Rattle.live_thread.proofs.Runs.{at_once}

-- the drain has no frame and no step that keeps its order

no_frame : (port : ℕ) (s : Step) → may_drain s ≡ true → is_frame_at port s ≡ false
no_frame port (Rx p bytes) h = absurd (cc)
no_frame port s h = refl

no_order : (s : Step) → may_drain s ≡ true → is_ordered s ≡ false
no_order (Rx p bytes) h = refl
no_order s h = cc

no_frames : (port : ℕ) (rest : List Step) → list_all may_drain rest ≡ true → frames_at port rest ≡ []
no_frames port [] h = refl
no_frames port (s ∷ rest) h =
    ap (λ b. if b then s ∷ frames_at port rest else frames_at port rest) (no_frame port s (first_so (may_drain s) (list_all may_drain rest) h))
    ∙ no_frames port rest (second_so (may_drain s) (list_all may_drain rest) h)

none_ordered : (rest : List Step) → list_all may_drain rest ≡ true → filter is_ordered rest ≡ []
none_ordered [] h = refl
none_ordered (s ∷ rest) h =
    ap (λ b. if b then s ∷ filter is_ordered rest else filter is_ordered rest) (no_order s (first_so (may_drain s) (list_all may_drain rest) h))
    ∙ none_ordered rest (second_so (may_drain s) (list_all may_drain rest) h)

module _ (p q r t : Past) (sc : Scenario) (none : p.steps ≡ []) (opened : q ≡ behind p (until_frame sc.steps)) (takes : Takes q r (from_frame sc.steps)) (drained : Drained r t)
    (setup : setup_of sc.roster ≡ p.setup) where
  abbrev first : List Step
  first = until_frame sc.steps

  abbrev later : List Step
  later = takes.done ++ drained.rest

  opened_steps : q.steps ≡ first
  opened_steps = ap (λ (x : Past). x.steps) opened ∙ ap (λ (l : List Step). l ++ first) none

  parts : t.steps ≡ first ++ later
  parts =
      ap (λ (x : Past). x.steps) drained.so
      ∙ (ap (λ (x : Past). x.steps ++ drained.rest) takes.so
      ∙ (append_assoc q.steps takes.done drained.rest
      ∙ ap (λ (l : List Step). l ++ (takes.done ++ drained.rest)) opened_steps))

  of_scenario : q.setup ≡ setup_of sc.roster
  of_scenario = ap (λ (x : Past). x.setup) opened ∙ sym setup

  end_setup : t.setup ≡ setup_of sc.roster
  end_setup = ap (λ (x : Past). x.setup) drained.so ∙ (ap (λ (x : Past). x.setup) takes.so ∙ of_scenario)

  opened_world : (before : List Step) → (run (setup_of sc.roster) (first ++ before)).0 ≡ worlds (world_of q) before
  opened_world before =
      run_worlds (setup_of sc.roster) first before
      ∙ ap₂ (λ (x : Setup) (l : List Step). worlds (run x l).0 before) (sym of_scenario) (sym opened_steps)

  frames_are : (port : ℕ) → frames_at port later ≡ frames_at port (from_frame sc.steps)
  frames_are port =
      filter-append (is_frame_at port) takes.done drained.rest
      ∙ (ap₂ (λ (a b : List Step). a ++ b) (takes.frames port) (no_frames port drained.rest drained.drains) ∙ append-nil (frames_at port (from_frame sc.steps)))

  ordered_are : filter is_ordered later ≡ filter is_ordered (from_frame sc.steps)
  ordered_are =
      filter-append is_ordered takes.done drained.rest
      ∙ (ap₂ (λ (a b : List Step). a ++ b) takes.ordered (none_ordered drained.rest drained.drains) ∙ append-nil (filter is_ordered (from_frame sc.steps)))

  live_rules : IsLiveRun t.steps sc
  live_rules = record {
    first = first;
    later = later;
    parts = parts;
    opening = all_kept first;
    frames = frames_are;
    ordered = ordered_are;
    published = λ before s after is undrained accepts.
        at_once (world_of q) takes.done drained.rest before s after takes.published drained.drains is undrained
        (ap (λ (w : World). accepts_changes w s) (sym (opened_world before)) ∙ accepts);
    last = drained.last;
    drained = subst (λ (x : Setup). is_drained x t.steps (run x t.steps).0 ≡ true) end_setup drained.nothing;
  }

  pub is_live_alone : is_live_run t.steps sc ≡ true
  is_live_alone = is_live t.steps sc live_rules

-- the same by the scenario's steps, of which these are the later ones
pub live_alone : (p q r t : Past) (steps rest : List Step) → p.steps ≡ [] → q ≡ behind p (until_frame steps) → rest ≡ from_frame steps → Takes q r rest → Drained r t
    → (sc : Scenario) → setup_of sc.roster ≡ p.setup → sc.steps ≡ steps → is_live_run t.steps sc ≡ true
live_alone p q r t steps rest none opened those takes drained sc setup own =
    is_live_alone p q r t sc none (subst (λ (l : List Step). q ≡ behind p (until_frame l)) (sym own) opened)
    (subst (λ (l : List Step). Takes q r l) (those ∙ ap from_frame (sym own)) takes) drained setup
