-- What is left to do at the end of a run, and what a book is of.
-- Source: this profile.
use Rattle.std.specs.Prelude.{◌≡◌, ℕ, ◌==◌, ◌&&◌, Bool, false, not, List, map, length}
use Rattle.std.specs.declared.option.Option.{Option}
use Rattle.std.specs.declared.option.Option.TheVariants.{None, Some}
use Rattle.std.specs.List.{filter}
use Rattle.br_model.specs.declared.steps.Step.{Step}
use Rattle.br_model.specs.declared.transcript.Line.{Line}
use Rattle.br_model.specs.Plane.Chip.{Chip}
use Rattle.br_model.specs.Plane.Runs.{pending, run}
use Rattle.br_model.specs.Plane.World.{World}
use Rattle.br_model.specs.Program.LiveRun.{is_empty}
use Rattle.br_model.specs.Program.Runs.{setup_of}
use Rattle.br_model.specs.Text.Scenario.{Scenario}
use Rattle.live_book.specs.declared.drained.Remains.{Remains}

abbrev pub has_reports : Chip → Bool
has_reports c = not (is_empty c.reports)

abbrev pub has_reports_at : Option Chip → Bool
has_reports_at None = false
has_reports_at (Some c) = has_reports c

-- the domains whose chips have reports that wait
abbrev pub reporting : World → List ℕ
reporting w = map (λ c. c.dom) (filter has_reports w.chips)

pub record IsLeft (r : Remains) (w : World) : Type 0 where
  pub waiting : r.waiting ≡ length w.waiting
  pub held : r.held ≡ length w.held
  pub pending : r.pending ≡ pending w
  pub reporting : r.reporting ≡ reporting w

-- no frame waits or is held, and no change is pending
abbrev pub is_idle : Remains → Bool
is_idle r = (r.waiting == 0) && ((r.held == 0) && (r.pending == 0))

-- The steps were taken by the scenario's bridge: these are their lines, and this is left to do. `given` are the scenario's own steps.
pub record IsBook (sc : Scenario) (given steps : List Step) (told : List Line) (left : Remains) : Type 0 where
  pub own : given ≡ sc.steps
  pub lines : told ≡ (run (setup_of sc.roster) steps).1
  pub rest : IsLeft left (run (setup_of sc.roster) steps).0
