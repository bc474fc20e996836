-- The state and the flags of a port's row.
use Rattle.std.specs.Prelude.{ℕ, ◌/◌, ◌%◌, ◌^◌, ◌==◌, Bool, ◌&&◌}
use Rattle.chip_tables.specs.declared.rows.PortRow.{PortRow}

-- whether the port is up, in this state
abbrev pub row_is_in : PortRow → ℕ → Bool
row_is_in row state = row.up && row.state == state

-- whether the port has the flag at this place
abbrev pub row_has_flag : PortRow → ℕ → Bool
row_has_flag row flag = row.flags / 2 ^ flag % 2 == 1
