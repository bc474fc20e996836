-- The steps of a chip's driver: a turn of its queue, a report, a sweep. Where there is no chip, nothing is pending or reported.
-- Source: the kernel's switchdev.rst (deferred work, SWITCHDEV_FDB_ADD_TO_BRIDGE, SWITCHDEV_FDB_DEL_TO_BRIDGE).
use Rattle.std.specs.Prelude.{List, [], ◌∷◌}
use Rattle.std.specs.declared.option.Option.{Option}
use Rattle.std.specs.declared.option.Option.TheVariants.{None, Some}
use Rattle.br_model.specs.declared.change.Change.{Change}
use Rattle.br_model.specs.declared.steps.Event.{Event}
use Rattle.br_model.specs.declared.steps.Event.TheVariants.{Told, Forget}
use Rattle.br_model.specs.declared.steps.Refusal.TheVariants.{NothingPending, NothingReported}
use Rattle.br_model.specs.Plane.Chip.{Chip, applies, unhit}
use Rattle.br_model.specs.Control.Learning.{Triple}
use Rattle.br_model.specs.Plane.World.{World, Stepped, with_chip, table_of_chip, next_of, refused, done, answered, reacts}

-- The chip applies the next deferred change.
abbrev pub turns_to : World → Chip → Option Change → Stepped
turns_to w c None = refused w NothingPending
turns_to w c (Some d) = done (with_chip w (applies c d))

abbrev pub turns : World → Option Chip → Stepped
turns w None = refused w NothingPending
turns w (Some c) = turns_to w c (next_of w c)

-- The bridge is told the chip's oldest report. A report that is refused stays.
abbrev pub tells : World → Chip → List Triple → Stepped
tells w c [] = refused w NothingReported
tells w c (x ∷ later) = answered w (with_chip w (record c { reports = later })) (reacts w (Told x.0 x.1 x.2))

abbrev pub reports : World → Option Chip → Stepped
reports w None = refused w NothingReported
reports w (Some c) = tells w c c.reports

-- the event of a sweep: the chip no longer sees the stations whose entries no frame hit
abbrev pub swept : World → Chip → Event
swept w c = Forget (unhit w.setup.domains (table_of_chip w c) c)

-- The bridge forgets them, and all hits of the chip are cleared. A sweep that is refused leaves the hits.
abbrev pub sweeps : World → Option Chip → Stepped
sweeps w None = done w
sweeps w (Some c) = answered w (with_chip w (record c { hits = [] })) (reacts w (swept w c))
