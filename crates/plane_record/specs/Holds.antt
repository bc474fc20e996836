-- The line of a frame that is held.
use Rattle.std.specs.Prelude.{ℕ}
use Rattle.std.specs.declared.option.Option.{Option}
use Rattle.std.specs.declared.option.Option.TheVariants.{None, Some}
use Rattle.br_model.specs.declared.steps.Refusal.TheVariants.{NothingWaiting}
use Rattle.br_model.specs.declared.transcript.Line.{Line}
use Rattle.br_model.specs.declared.transcript.Line.TheVariants.{Held, Refused}
use Rattle.plane_core.specs.Shown.{Shown}

abbrev pub held_line : Option Shown → ℕ → Line
held_line None step = Refused step NothingWaiting
held_line (Some s) step = Held s.id s.floor
