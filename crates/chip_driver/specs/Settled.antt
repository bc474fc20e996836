-- What a driver keeps is what its rows say, and the rows of its floods and routers are those that it makes.
use Rattle.std.specs.Prelude.{◌≡◌, ℕ, ◌<◌, ◌≤◌, ◌==◌, ◌&&◌, Bool, true, false, List, if◌then◌else◌}
use Rattle.br_model.specs.Forward.Targets.{flood, mcast_flood, bcast_flood, isolated}
use Rattle.br_model.specs.Table.Domains.{port_places}
use Rattle.port_sets.specs.Numbers.{has_number}
use Rattle.chip_tables.specs.declared.rows.FanRow.{FanRow}
use Rattle.chip_tables.specs.declared.rows.PortRow.{PortRow}
use Rattle.chip_tables.specs.Rows.{Rows, vlan_at, flood_at, router_at, port_at, same_flood}
use Rattle.chip_tables.specs.Stands.{IsVid}
use Rattle.chip_driver.specs.declared.fans.Fan.{Fan}
use Rattle.chip_driver.specs.declared.fans.Fan.TheVariants.{Floods, Routers}
use Rattle.chip_driver.specs.declared.shadow.Shadow.{Shadow}
use Rattle.vlan_groups.specs.Joined.{has_vlan}
use Rattle.chip_tables.specs.Flags.{row_has_flag}
use Rattle.chip_driver.specs.Shadows.{Has, switched, row_forwards, row_floods, fan_made}

-- Each set of the shadow but the routers has the ports whose rows say so.
pub record Follows (s : Shadow) (rows : Rows) : Type 0 where
  pub own : Has s.own (λ q. (port_at rows q).own)
  pub forwarding : Has s.forwarding (λ q. row_forwards (port_at rows q))
  pub flood : Has s.flood (λ q. row_floods (port_at rows q) flood)
  pub mcast_flood : Has s.mcast_flood (λ q. row_floods (port_at rows q) mcast_flood)
  pub bcast_flood : Has s.bcast_flood (λ q. row_floods (port_at rows q) bcast_flood)
  pub isolated : Has s.isolated (λ q. row_has_flag (port_at rows q) isolated)

-- The sets have the port as its row says, and else the same ports.
pub record Notes (port : ℕ) (row : PortRow) (old new : Shadow) : Type 0 where
  pub own : new.own ≡ old.own
  pub forwarding : new.forwarding ≡ switched old.forwarding port (row_forwards row)
  pub flood : new.flood ≡ switched old.flood port (row_floods row flood)
  pub mcast_flood : new.mcast_flood ≡ switched old.mcast_flood port (row_floods row mcast_flood)
  pub bcast_flood : new.bcast_flood ≡ switched old.bcast_flood port (row_floods row bcast_flood)
  pub isolated : new.isolated ≡ switched old.isolated port (row_has_flag row isolated)
  pub routers : new.routers ≡ old.routers

-- a row of a VLAN, of floods or of routers
abbrev pub fan_at : Rows → ℕ → Fan → FanRow
fan_at rows vid (Floods f) = flood_at rows vid f
fan_at rows vid Routers = router_at rows vid

abbrev pub same_fan : Fan → Fan → Bool
same_fan (Floods f) (Floods g) = same_flood f g
same_fan (Floods f) Routers = false
same_fan Routers (Floods g) = false
same_fan Routers Routers = true

pub record Settled (s : Shadow) (blocks : List (List ℕ)) (rows : Rows) : Type 0 where
  pub shadow : Follows s rows
  -- each port's VLANs are those whose rows have it
  pub joined : (port vid : ℕ) → port < port_places → IsVid vid → has_vlan blocks port vid ≡ has_number (vlan_at rows vid).members port
  pub states : (port : ℕ) → port < port_places → (port_at rows port).state ≤ 4
  pub fans : (vid : ℕ) → IsVid vid → (fan : Fan) → fan_at rows vid fan ≡ fan_made s (vlan_at rows vid).members fan

-- The row is written, and all other rows stay.
pub record WritesFan (old new : Rows) (vid : ℕ) (fan : Fan) (row : FanRow) : Type 0 where
  pub written : (w : ℕ) (k : Fan) → fan_at new w k ≡ (if (w == vid) && same_fan k fan then row else fan_at old w k)
  pub rest : new ≡ record old { unicast = new.unicast; mcast = new.mcast; bcast = new.bcast; routers = new.routers }

-- The rows of VLANs that pass are made anew, and all other rows stay.
pub record Refreshes (test : ℕ → Fan → Bool) (s : Shadow) (old new : Rows) : Type 0 where
  pub fans : (vid : ℕ) → IsVid vid → (fan : Fan)
      → fan_at new vid fan ≡ (if test vid fan then fan_made s (vlan_at old vid).members fan else fan_at old vid fan)
  pub rest : new ≡ record old { unicast = new.unicast; mcast = new.mcast; bcast = new.bcast; routers = new.routers }
