-- The run of a whole scenario.
use Rattle.std.specs.Prelude.{◌≡◌, List}
use Rattle.std.specs.declared.option.Option.TheVariants.{Some}
use Rattle.br_model.specs.declared.steps.Step.{Step}
use Rattle.br_model.specs.Plane.Runs.{run}
use Rattle.br_model.specs.Program.Runs.{setup_of}
use Rattle.br_model.specs.Text.Roster.{Roster}
use Rattle.scenario_play.specs.Playing.{IsReady}
use Rattle.scenario_play.specs.Stages.{Standing}

-- These are the steps that were done on the stage.
pub record HasDone (roster : Roster) (steps : List Step) (x : Standing) : Type 0 where
  pub ready : IsReady roster x.world
  pub world : x.world ≡ Some (run (setup_of roster) steps).0
