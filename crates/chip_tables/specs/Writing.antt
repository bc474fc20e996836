-- A bank of which one row is written.
use Rattle.std.specs.Prelude.{◌≡◌, ℕ, ◌==◌, Bool, if◌then◌else◌, List, [], slice_index, replicate}
use Rattle.br_model.specs.Table.Domains.{port_places}
use Rattle.port_sets.specs.Numbers.{has_number}
use Rattle.chip_tables.specs.declared.rows.FanRow.{FanRow}
use Rattle.chip_tables.specs.Rows.{Rows, fan_of}
use Rattle.chip_tables.specs.Stands.{ports_where}

abbrev pub WritesFan : List ℕ → List ℕ → ℕ → FanRow → Type 0
WritesFan old new place row = (v : ℕ) → fan_of (slice_index new v) ≡ (if v == place then row else fan_of (slice_index old v))

-- the row with the port or without it
abbrev pub switched_fan : FanRow → ℕ → Bool → FanRow
switched_fan row port on = record row { ports = ports_where (λ q. if q == port then on else has_number row.ports q) }

-- Nothing was written to: the bits of each row are 0.
pub record IsBlank (rows : Rows) : Type 0 where
  pub vlans : rows.vlans ≡ replicate 4096 0
  pub unicast : rows.unicast ≡ replicate 4096 0
  pub mcast : rows.mcast ≡ replicate 4096 0
  pub bcast : rows.bcast ≡ replicate 4096 0
  pub routers : rows.routers ≡ replicate 4096 0
  pub ports : rows.ports ≡ replicate port_places 0
  pub traps : rows.traps ≡ replicate 21 0
  pub control : rows.control ≡ replicate 1 0
  pub addresses : rows.addresses ≡ []
  pub groups : rows.groups ≡ []
