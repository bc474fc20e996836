-- What the chip of a domain has applied in a run, in the order in which it did: a step that accepts changes applies the synchronous
-- ones of them, a turn of the chip's queue its deferred one.
-- Source: the kernel's switchdev.rst (deferred work); the queue is this profile's.
use Rattle.std.specs.Prelude.{ℕ, ◌==◌, if◌then◌else◌, List, [], ◌++◌, drop, length}
use Rattle.std.specs.List.{fold}
use Rattle.std.specs.Option.{option_map_or, option_to_list}
use Rattle.std.specs.declared.option.Option.{Option}
use Rattle.std.specs.declared.option.Option.TheVariants.{None, Some}
use Rattle.br_model.specs.declared.change.Change.{Change}
use Rattle.br_model.specs.declared.steps.Step.{Step}
use Rattle.br_model.specs.Table.Cut.{synchronous_of}
use Rattle.br_model.specs.Table.Setup.{Setup}
use Rattle.br_model.specs.Plane.Chip.{Chip}
use Rattle.br_model.specs.Plane.Steps.{world_step}
use Rattle.br_model.specs.Plane.Traits.{traits}
use Rattle.br_model.specs.Plane.World.{World, first_world, chip_at, next_of}

-- what the step accepts
abbrev pub accepted_in : World → Step → List Change
accepted_in w step = drop (length w.history) (world_step w step).0.history

-- those of them that reach each chip at once
abbrev pub synchronous_in : World → Step → List Change
synchronous_in w step = synchronous_of w.setup.domains.edition (accepted_in w step)

-- what a turn of this chip's queue applies
abbrev pub turned_in : World → Option Chip → List Change
turned_in w None = []
turned_in w (Some c) = option_to_list (next_of w c)

-- what the chip of the domain applies in the step, which may be a turn
abbrev pub applied_in : ℕ → World → Step → List Change
applied_in dom w step = option_map_or (λ d. if d == dom then turned_in w (chip_at w dom) else []) (traits step).turn (synchronous_in w step)

abbrev pub then_applied : ℕ → World × List Change → Step → World × List Change
then_applied dom x step = ((world_step x.0 step).0, x.1 ++ applied_in dom x.0 step)

-- what it has applied after the steps
unfoldable pub applied : Setup → ℕ → List Step → List Change
applied setup dom steps = (fold (then_applied dom) (first_world setup, []) steps).1
