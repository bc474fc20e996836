-- Runs of the world of a bridge with chips.
-- Source: this profile.
use Rattle.std.specs.Prelude.{ℕ, ◌+◌, ◌-◌, List, [], ◌++◌, length}
use Rattle.std.specs.List.{fold, sum_by}
use Rattle.br_model.specs.declared.steps.Step.{Step}
use Rattle.br_model.specs.declared.transcript.Line.{Line}
use Rattle.br_model.specs.declared.transcript.Line.TheVariants.{End}
use Rattle.br_model.specs.Table.Cut.{deferred_count}
use Rattle.br_model.specs.Plane.Steps.{world_step}
use Rattle.br_model.specs.Plane.Chip.{Chip}
use Rattle.br_model.specs.Plane.World.{World, Stepped, first_world}
use Rattle.br_model.specs.Table.Setup.{Setup}

abbrev pub then_step : Stepped → Step → Stepped
then_step x step = let y = world_step x.0 step in (y.0, x.1 ++ y.1)

-- the world after the steps, and all their lines
unfoldable pub run : Setup → List Step → Stepped
run setup steps = fold then_step (first_world setup, []) steps

-- how many deferred changes a chip hasn't applied
abbrev pub pending_of : World → Chip → ℕ
pending_of w c = deferred_count w.setup.domains.edition w.history - c.count

-- and all chips together
abbrev pub pending : World → ℕ
pending w = sum_by (pending_of w) w.chips

-- steps, changes, deferred changes that chips haven't applied, frames that wait or are held
abbrev pub end_line : World → Line
end_line w = End w.steps (length w.history) (pending w) (length w.waiting + length w.held)
