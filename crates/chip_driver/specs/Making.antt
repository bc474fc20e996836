-- The rows of a chip before any change.
use Rattle.std.specs.Prelude.{◌≡◌, ℕ, nat_lt, Bool, false, List, None, if◌then◌else◌}
use Rattle.port_sets.specs.Numbers.{has_number}
use Rattle.chip_tables.specs.declared.rows.PortRow.{PortRow}
use Rattle.chip_tables.specs.Rows.{Rows, port_at, trap_at}

-- the row of a port that never came up
abbrev pub idle : Bool → PortRow
idle own = record { up = false; state = 0; flags = 0; pvid = None; own = own }

-- the rows of the ports below n are written
pub record MarksOwn (own : List ℕ) (n : ℕ) (old new : Rows) : Type 0 where
  pub ports : (q : ℕ) → port_at new q ≡ (if nat_lt q n then idle (has_number own q) else port_at old q)
  pub rest : new ≡ record old { ports = new.ports }

-- the traps from low up to n are switched
pub record SwitchesTraps (low n : ℕ) (on : Bool) (old new : Rows) : Type 0 where
  pub traps : (i : ℕ) → trap_at new i ≡ (if nat_lt i n then (if nat_lt i low then trap_at old i else on) else trap_at old i)
  pub rest : new ≡ record old { traps = new.traps }
