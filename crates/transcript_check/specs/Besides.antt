-- A run of the world beside a transcript.
use Rattle.std.specs.Prelude.{◌≡◌, ℕ, List}
use Rattle.std.specs.declared.option.Option.{Option}
use Rattle.std.specs.declared.option.Option.TheVariants.{None}
use Rattle.br_model.specs.declared.steps.Step.{Step}
use Rattle.br_model.specs.Plane.Runs.{run}
use Rattle.br_model.specs.Plane.World.{World}
use Rattle.br_model.specs.Program.Checks.{Difference, lines_in}
use Rattle.br_model.specs.Program.Runs.{body_of}
use Rattle.br_model.specs.Table.Setup.{Setup}
use Rattle.br_model.specs.Theorems.Invariants.{IsWorld}
use Rattle.transcript_check.specs.Comparing.{Compares, Standing}

-- at the first line of a transcript
abbrev pub start_of : List ℕ → Standing
start_of transcript = record { line = 1; rest = transcript }

-- The lines of these steps were compared, from the first one on. The world is that after them, unless a line differs.
pub record IsBeside (transcript : List ℕ) (setup : Setup) (steps : List Step) (world : World) (cursor : Standing) (differs : Option Difference) : Type 0 where
  pub stands : IsWorld world
  pub setup_is : world.setup ≡ setup
  pub world_is : differs ≡ None → world ≡ (run setup steps).0
  pub compared : Compares (start_of transcript) cursor (lines_in (body_of (run setup steps))) differs
