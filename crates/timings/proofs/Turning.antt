-- A turn changes the chips alone.
use Rattle.std.proofs.Common.{ℕ, ◌+◌, Option, None, Some, refl}
use Rattle.br_model.specs.declared.change.Change.{Change}
use Rattle.br_model.specs.declared.steps.Step.TheVariants.{Turn}
use Rattle.br_model.specs.Plane.Chip.{Chip}
use Rattle.br_model.specs.Plane.ChipSteps.{turns_to, turns}
use Rattle.br_model.specs.Plane.Steps.{world_step}
use Rattle.br_model.specs.Plane.World.{World, chip_at, next_of}
use Rattle.timings.specs.Timings.{Alike}

pub same : (w : World) → Alike w w
same w = record { setup = refl; history = refl; control = refl; published = refl; waiting = refl; held = refl; next = refl }

turns_to-alike : (w : World) (c : Chip) (o : Option Change) → Alike (turns_to w c o).0 w
turns_to-alike w c None = same w
turns_to-alike w c (Some d) = record { setup = refl; history = refl; control = refl; published = refl; waiting = refl; held = refl; next = refl }

turns-alike : (w : World) (o : Option Chip) → Alike (turns w o).0 w
turns-alike w None = same w
turns-alike w (Some c) = turns_to-alike w c (next_of w c)

pub turn-alike : (w : World) (dom : ℕ) → Alike (world_step w (Turn dom)).0 w
turn-alike w dom =
    let a = turns-alike (record w { steps = w.steps + 1 }) (chip_at w dom) in
    record { setup = a.setup; history = a.history; control = a.control; published = a.published; waiting = a.waiting; held = a.held; next = a.next }
