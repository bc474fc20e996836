-- A session's world has the chips of its ports.
use Rattle.std.proofs.Common.{◌≡◌, ℕ, true, false, List, [], Option, None, Some, Result, Ok, Err, OnOk, refl, sym, ◌∙◌, ap, subst}
use Rattle.br_model.specs.declared.scenario.Place.TheVariants.{Steps}
use Rattle.br_model.specs.declared.steps.Step.{Step}
use Rattle.br_model.specs.declared.transcript.Line.{Line}
use Rattle.br_model.specs.Plane.Steps.{world_step}
use Rattle.br_model.specs.Plane.World.{World, Stepped}
use Rattle.br_model.specs.Table.Domains.{chip_domains}
use Rattle.br_model.specs.Table.Setup.{Setup}
use Rattle.br_model.specs.Text.LineForms.{comes_by_line}
use Rattle.br_model.specs.Text.Roster.{Entry, Roster, chips_of}
use Rattle.br_model.specs.Text.Scenario.{Scenario, Going, opened}
use Rattle.br_model.proofs.Plane.Applied.{step-setup}
use Rattle.plane_parts.specs.Added.{Added}
use Rattle.scenario_runner.specs.declared.session.Session.{Session}
use Rattle.run_world.specs.declared.voice.Voice.{Voice}
use Rattle.run_world.specs.declared.voice.Voice.TheVariants.{Silent, Monitor, Querier}
use Rattle.scenario_reader.specs.declared.reader.Last.{Last}
use Rattle.scenario_reader.specs.declared.reader.Next.{Next}
use Rattle.scenario_reader.specs.declared.reader.Next.TheVariants as read
use Rattle.scenario_reader.specs.Reading.{IsBehindDeclarations, KeepsSetup, ReaderState, Takes, Took, captures}
use Rattle.scenario_runner.specs.Session.{Follows, HasChips, IsReady, IsWorld}
use Rattle.run_world.specs.Voices.{IsTuned}
use Rattle.run_world.specs.Worlds.{Tells}
use Rattle.scenario_runner.proofs.Following.{kept}

-- it stays so when a line is read

chips_on : (r q : Roster) (w : Option World) → KeepsSetup r q → HasChips r w → HasChips q w
chips_on r q None keeps h = tt
chips_on r q (Some w) keeps h = let k = keeps.1 h.1 in (h.0 ∙ sym (ap (λ (ports : List Entry). chips_of ports) k.1.1), k.0)

ready_on : (r q : Roster) (w : Option World) (v : Voice) → KeepsSetup r q → IsReady r w v → IsReady q w v
ready_on r q w v keeps h = (keeps.0 ∙ h.0, chips_on r q w keeps h.1, h.2)

-- the steps come next
among_steps : (r q : Roster) → q ≡ record r { place = Steps } → KeepsSetup r q
among_steps r q e = subst (KeepsSetup r) (sym e) (refl, λ b. ((refl, refl), (refl, refl)))

module _ (x y : ReaderState) (line : List ℕ) (w : Option World) (v : Voice) (ready : IsReady x.roster w v) (next : Next) (takes_it : Takes x line y next) where
  -- a scenario that the reader has read
  took : (n : Next) → next ≡ n → Took (record { lines = x.lines; roster = x.roster; steps = []; ending = Going }) line y n
  took n is =
      let s : Scenario = record { lines = x.lines; roster = x.roster; steps = []; ending = Going } in
      subst (λ (m : Next). Took s line y m) is (takes_it s (record { lines = refl; roster = refl; going = refl }))

  pub ready_line : next ≡ read.Line → IsReady y.roster w v
  ready_line is = ready_on x.roster y.roster w v (took read.Line is).5 ready

  pub ready_step : (step : Step) → next ≡ read.Step step → IsReady y.roster w v
  ready_step step is = ready_on x.roster y.roster w v (among_steps x.roster y.roster (took (read.Step step) is).1.roster) ready

  pub ready_section : (n : ℕ) → next ≡ read.Section n → IsReady y.roster w v
  ready_section n is = ready_on x.roster y.roster w v (among_steps x.roster y.roster (took (read.Section n) is).2.roster) ready

  pub ready_last : (last : Last) → next ≡ read.End last → IsReady y.roster w v
  ready_last last is = ready_on x.roster y.roster w v (kept x.roster y.roster (took (read.End last) is).1) ready

  -- the step comes by a line
  pub comes_on : (step : Step) → next ≡ read.Step step → comes_by_line false (chips_of y.roster.ports) step ≡ true
  comes_on step is =
      let t = took (read.Step step) is in
      ap (λ (q : Roster). comes_by_line false (chips_of q.ports) step) t.1.roster ∙ (ap (λ b. comes_by_line b (chips_of x.roster.ports) step) (sym ready.0) ∙ t.2)

  -- behind the declarations
  pub behind_on : (step : Step) → next ≡ read.Step step → IsBehindDeclarations y.roster
  behind_on step is = subst IsBehindDeclarations (sym (took (read.Step step) is).1.roster) (refl, refl)

-- and when a step is done
pub ready_after : (r : Roster) (w v : World) (step : Step) → chip_domains w.setup.domains ≡ chips_of r.ports → IsBehindDeclarations r → v ≡ (world_step w step).0 → HasChips r (Some v)
ready_after r w v step h behind e =
    (ap (λ (x : World). chip_domains x.setup.domains) e ∙ ap (λ (s : Setup). chip_domains s.domains) (step-setup w step) ∙ h, behind)

-- the same steps come by a line
pub comes_here : (chips others : List ℕ) (step : Step) → chips ≡ others → comes_by_line false others step ≡ true → comes_by_line false chips step ≡ true
comes_here chips others step e h = ap (λ (l : List ℕ). comes_by_line false l step) e ∙ h

-- before the first line there is no world
pub ready_at_first : (x : Session) → Follows (opened false) x → IsReady x.reader.roster x.world x.voice
ready_at_first x f = (ap (λ (r : Roster). r.check) f.reads.roster, none x.world f.world, tuned x.world x.voice f.world)
  where
    tuned : (w : Option World) (v : Voice) → IsWorld (opened false) w → IsTuned w v
    tuned None Silent h = tt
    tuned None (Monitor m) h = tt
    tuned None (Querier a) h = tt
    tuned (Some w) v h = let e : true ≡ false = h.1.1 in absurd (cc)

    none : (w : Option World) → IsWorld (opened false) w → HasChips x.reader.roster w
    none None h = tt
    none (Some w) h = let e : true ≡ false = h.1.1 in absurd (cc)

pub ready_told : {A E : Type 0} (r : Result A E) (roster : Roster) (w v : World) (a b : Voice) (step : Step) (before after : List Line) → IsReady roster (Some w) a
    → OnOk r (Added (Tells w step v) before after) → OnOk r (IsTuned (Some v) b) → OnOk r (IsReady roster (Some v) b)
ready_told (Ok x) roster w v a b step before after h told tuned = (h.0, ready_after roster w v step h.1.0 h.1.1 (ap (λ (y : Stepped). y.0) told.so), tuned)
ready_told (Err e) roster w v a b step before after h told tuned = told

-- behind a line `capture`
pub behind_section : (s : Scenario) (x : Session) (n : ℕ) → Follows (captures s n) x → IsBehindDeclarations x.reader.roster
behind_section s x n f = subst IsBehindDeclarations (sym f.reads.roster) (refl, refl)
