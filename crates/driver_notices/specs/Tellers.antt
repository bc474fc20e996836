-- One change more, or a turn.
-- Source: this profile.
use Rattle.std.specs.Prelude.{ℕ, ◌+◌, if◌then◌else◌}
use Rattle.std.specs.Option.{option_map}
use Rattle.std.specs.declared.option.Option.{Option}
use Rattle.br_model.specs.declared.change.Change.{Change}
use Rattle.br_model.specs.declared.change.Update.{Update}
use Rattle.br_model.specs.declared.domains.Edition.{Edition}
use Rattle.br_model.specs.Table.Change.{deferred}
use Rattle.driver_notices.specs.declared.line.NoticeLine.{NoticeLine}
use Rattle.driver_notices.specs.declared.line.NoticeLine.TheVariants.{Told, Queued, Applied}

-- its line, behind so many deferred ones
abbrev pub next_line : Edition → ℕ → ℕ → Change → NoticeLine
next_line edition step count c = if deferred edition c then Queued step (count + 1) c else Told step c

-- how many deferred ones there are with it
abbrev pub next_count : Edition → ℕ → Change → ℕ
next_count edition count c = if deferred edition c then count + 1 else count

-- the line of a turn that takes this update
abbrev pub line_of_update : ℕ → ℕ → Option Update → Option NoticeLine
line_of_update step dom update = option_map (λ u. Applied step dom (u.ticket + 1) u.change) update
