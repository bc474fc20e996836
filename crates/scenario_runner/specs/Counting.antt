-- Lines that are counted, and the run that they are of.
use Rattle.std.specs.Prelude.{◌≡◌, ℕ, List, ◌++◌, codes}
use Rattle.br_model.specs.declared.steps.Step.{Step}
use Rattle.br_model.specs.declared.transcript.Line.{Line}
use Rattle.br_model.specs.Plane.Runs.{run}
use Rattle.br_model.specs.Plane.World.{World}
use Rattle.br_model.specs.Table.Setup.{Setup}
use Rattle.br_model.specs.Program.Summary.{count_of}
use Rattle.transcript_lines.specs.Rows.{sent_lines}
use Rattle.scenario_runner.specs.declared.demo.Tally.{Tally}

-- the tally of these lines
pub record Tallies (lines : List Line) (tally : Tally) : Type 0 where
  pub chip : tally.chip ≡ count_of (codes "chip") lines
  pub soft : tally.soft ≡ count_of (codes "soft") lines
  pub tx : tally.tx ≡ count_of (codes "tx") lines
  pub overrun : tally.overrun ≡ count_of (codes "overrun") lines

-- these lines were added to it
abbrev pub Adds : Tally → List Line → Tally → Type 0
Adds old lines new = (before : List Line) → Tallies before old → Tallies (before ++ lines) new

-- the lines of a frame that leaves these ports were added, whatever it is
abbrev pub AddsSent : Tally → List ℕ → Tally → Type 0
AddsSent old ports new = (id : ℕ) (untagged plain tagged : List ℕ) → Adds old (sent_lines id ports untagged plain tagged) new

-- the world after these steps, and the tally of their lines
pub record Ran (setup : Setup) (steps : List Step) (world : World) (tally : Tally) : Type 0 where
  pub world_is : world ≡ (run setup steps).0
  pub tallies : Tallies (run setup steps).1 tally

-- these steps more were done
abbrev pub RunsOn : World → Tally → List Step → World → Tally → Type 0
RunsOn old_world old steps world new = (setup : Setup) (before : List Step) → Ran setup before old_world old → Ran setup (before ++ steps) world new
