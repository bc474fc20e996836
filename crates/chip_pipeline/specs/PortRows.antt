-- What the row of a port tells of the port.
use Rattle.std.specs.Prelude.{ℕ, ◌==◌, Bool, not, ◌&&◌}
use Rattle.br_model.specs.Forward.Admission.{forwarding}
use Rattle.br_model.specs.Forward.Targets.{isolated}
use Rattle.port_sets.specs.Numbers.{has_number}
use Rattle.chip_tables.specs.declared.rows.PortRow.{PortRow}
use Rattle.chip_tables.specs.declared.rows.VlanRow.{VlanRow}
use Rattle.chip_tables.specs.Flags.{row_has_flag, row_is_in}

-- whether a port with this row lets out what came by another port, isolated or not
abbrev pub row_lets : Bool → PortRow → Bool
row_lets alone row = row_is_in row forwarding && not (alone && row_has_flag row isolated)

-- whether it may take a frame of the VLAN
abbrev pub row_takes : ℕ → Bool → VlanRow → ℕ → PortRow → Bool
row_takes port alone vlan q row = has_number vlan.members q && (not (q == port) && row_lets alone row)
