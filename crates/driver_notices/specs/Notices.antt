-- The notices of a run: each change is told, or put into the queues, in the step that accepts it, and a turn takes one from the queue of its
-- chip.
-- Source: the kernel's switchdev.rst (notifiers; address entries are offloaded by deferred work); lines and numbers are this profile's.
use Rattle.std.specs.Prelude.{ℕ, zero, suc, ◌+◌, if◌then◌else◌, List, [], ◌∷◌, ◌++◌, length, take, codes}
use Rattle.std.specs.Fmt.{decimal}
use Rattle.std.specs.List.{fold}
use Rattle.std.specs.Option.{option_map, option_map_or, option_to_list}
use Rattle.std.specs.declared.option.Option.{Option}
use Rattle.std.specs.declared.option.Option.TheVariants.{None, Some}
use Rattle.br_model.specs.declared.change.Change.{Change}
use Rattle.br_model.specs.declared.domains.Edition.{Edition}
use Rattle.br_model.specs.declared.steps.Step.{Step}
use Rattle.br_model.specs.Plane.Chip.{Chip}
use Rattle.br_model.specs.Plane.Runs.{pending}
use Rattle.br_model.specs.Plane.Steps.{world_step}
use Rattle.br_model.specs.Plane.Traits.{traits}
use Rattle.br_model.specs.Plane.World.{World, chip_at, first_world, next_of}
use Rattle.br_model.specs.Program.Runs.{run_of, setup_of}
use Rattle.br_model.specs.Table.Change.{deferred}
use Rattle.br_model.specs.Table.Cut.{deferred_count, synchronous_of}
use Rattle.br_model.specs.Table.Setup.{Setup}
use Rattle.br_model.specs.Text.Scenario.{Scenario, Ending, Going, Ended, Bad, scenario}
use Rattle.br_model.specs.Text.Transcript.{bad_text}
use Rattle.br_model.specs.Theorems.Applied.{accepted_in}
use Rattle.driver_notices.specs.declared.line.NoticeLine.{NoticeLine}
use Rattle.driver_notices.specs.declared.line.NoticeLine.TheVariants.{Told, Queued, Applied}
use Rattle.driver_notices.specs.Lines.{text}

-- Changes that this step accepts, behind so many deferred ones. The queues number what is put into them from 1.
abbrev pub lines_of : Edition → ℕ → ℕ → List Change → List NoticeLine
lines_of edition step count [] = []
lines_of edition step count (c ∷ later) =
    if deferred edition c
    then Queued step (count + 1) c ∷ lines_of edition step (count + 1) later
    else Told step c ∷ lines_of edition step count later

-- The chip of the domain takes what its queue has next, in this step.
abbrev pub taken : ℕ → ℕ → World → Option Chip → List NoticeLine
taken step dom w None = []
taken step dom w (Some c) = option_to_list (option_map (Applied step dom (c.count + 1)) (next_of w c))

abbrev pub accepted : World → Step → List NoticeLine
accepted w step = lines_of w.setup.domains.edition (w.steps + 1) (deferred_count w.setup.domains.edition w.history) (accepted_in w step)

-- the lines of a step
abbrev pub lines_in : World → Step → List NoticeLine
lines_in w step = option_map_or (λ dom. taken (w.steps + 1) dom w (chip_at w dom)) (traits step).turn (accepted w step)

abbrev pub notes : World × List NoticeLine → Step → World × List NoticeLine
notes x step = ((world_step x.0 step).0, x.1 ++ lines_in x.0 step)

-- the lines of the run of these steps
unfoldable pub lines : Setup → List Step → List NoticeLine
lines setup steps = (fold notes (first_world setup, []) steps).1

-- What is written.

-- the first line, and the text of the steps' lines
abbrev pub body_of : Scenario → List ℕ
body_of s = codes "notices 1" ++ 10 ∷ text s.roster.ports (lines (setup_of s.roster) s.steps)

-- steps; how many changes were told, and how many were put into the queues; and how many of these the chips haven't taken, all together
abbrev pub end_text : World → List ℕ
end_text w =
    codes "end " ++ (decimal w.steps ++ (32 ∷ (decimal (length (synchronous_of w.setup.domains.edition w.history)) ++ (32 ∷
    (decimal (deferred_count w.setup.domains.edition w.history) ++ (32 ∷ (decimal (pending w) ++ 10 ∷ [])))))))

abbrev pub last_text : Ending → World → List ℕ
last_text Going w = []
last_text Ended w = end_text w
last_text (Bad n why) w = bad_text n why

-- what is written before the last line
unfoldable pub body : List ℕ → List ℕ
body bytes = body_of (scenario bytes)

-- The first parts of it, so many: its first line is one, and the lines of a step are one.
unfoldable pub body_parts : ℕ → List ℕ → List ℕ
body_parts zero bytes = []
body_parts (suc n) bytes = let s = scenario bytes in body_of (record s { steps = take n s.steps })

-- all that is written for the bytes of a scenario
unfoldable pub notices_of : List ℕ → List ℕ
notices_of bytes = let s = scenario bytes in body_of s ++ last_text s.ending (run_of s).0
