-- What a driver keeps of the ports beside its rows, and the rows that it makes of it. No table is spoken of here.
use Rattle.std.specs.Prelude.{◌≡◌, ℕ, ◌==◌, ◌<◌, Bool, not, ◌&&◌, ◌||◌, List, if◌then◌else◌}
use Rattle.br_model.specs.Forward.Admission.{forwarding}
use Rattle.br_model.specs.Table.Domains.{host, port_places}
use Rattle.port_sets.specs.Numbers.{has_number}
use Rattle.chip_tables.specs.declared.rows.FanRow.{FanRow}
use Rattle.chip_tables.specs.declared.rows.PortRow.{PortRow}
use Rattle.chip_tables.specs.declared.rows.VlanRow.{VlanRow}
use Rattle.chip_tables.specs.declared.rows.Flood.{Flood}
use Rattle.chip_tables.specs.declared.rows.Flood.TheVariants.{Unicast, Mcast, Bcast}
use Rattle.chip_tables.specs.Flags.{row_has_flag}
use Rattle.chip_tables.specs.Stands.{ports_where, fan}
use Rattle.chip_driver.specs.declared.fans.Fan.{Fan}
use Rattle.chip_driver.specs.declared.fans.Fan.TheVariants.{Floods, Routers}
use Rattle.chip_driver.specs.declared.shadow.Shadow.{Shadow}
use Rattle.chip_driver.specs.declared.shares.Share.{Share}

-- the set has just the ports that pass
abbrev pub Has : List ℕ → (ℕ → Bool) → Type 0
Has set test = (q : ℕ) → q < port_places → has_number set q ≡ test q

-- the set with the port or without it
abbrev pub switched : List ℕ → ℕ → Bool → List ℕ
switched set port on = ports_where (λ q. if q == port then on else has_number set q)

-- the row of a VLAN with one membership switched
abbrev pub switched_row : VlanRow → ℕ → Bool → Bool → VlanRow
switched_row row port on untagged = record { members = switched row.members port on; untagged = switched row.untagged port untagged }

-- What a port's row says.

abbrev pub row_forwards : PortRow → Bool
row_forwards row = row.up && (row.state == forwarding)

abbrev pub row_floods : PortRow → ℕ → Bool
row_floods row flag = row.up && row_has_flag row flag

-- Tests of a port in a VLAN, by whether it is a member.

-- whether a row has it as a target
abbrev pub is_flooded : Shadow → Bool → Flood → ℕ → Bool
is_flooded s member Unicast q = member && has_number s.flood q
is_flooded s member Mcast q = (q == host) || (member && has_number s.mcast_flood q)
is_flooded s member Bcast q = (q == host) || (member && has_number s.bcast_flood q)

abbrev pub is_routed : Shadow → Bool → ℕ → Bool
is_routed s member q = has_number s.routers q && member

abbrev pub is_target : Shadow → Bool → Fan → ℕ → Bool
is_target s member (Floods f) q = is_flooded s member f q
is_target s member Routers q = is_routed s member q

-- whether a row has it as a target as a member
abbrev pub is_flood_wanted : Shadow → Flood → ℕ → Bool
is_flood_wanted s Unicast q = has_number s.flood q
is_flood_wanted s Mcast q = (q == host) || has_number s.mcast_flood q
is_flood_wanted s Bcast q = (q == host) || has_number s.bcast_flood q

abbrev pub is_wanted : Shadow → Fan → ℕ → Bool
is_wanted s (Floods f) q = is_flood_wanted s f q
is_wanted s Routers q = has_number s.routers q

-- whether it may take what came by a plain and by an isolated port of another domain
abbrev pub is_open : Shadow → Bool → ℕ → Bool
is_open s member q = member && ((q == host) || has_number s.forwarding q)

abbrev pub is_free : Shadow → Bool → ℕ → Bool
is_free s member q = is_open s member q && ((q == host) || not (has_number s.isolated q))

-- what it has in a row
abbrev pub share_of : Shadow → ℕ → Bool → Bool → Share
share_of s q member target = record {
  ports = has_number s.own q && target;
  isolated = not (has_number s.own q) && (target && is_free s member q);
  plain = not (has_number s.own q) && (target && is_open s member q);
}

-- The tests of a VLAN with these members.

abbrev pub floods_to : Shadow → List ℕ → Flood → ℕ → Bool
floods_to s members f q = is_flooded s (has_number members q) f q

abbrev pub routes_to : Shadow → List ℕ → ℕ → Bool
routes_to s members q = is_routed s (has_number members q) q

abbrev pub opens : Shadow → List ℕ → ℕ → Bool
opens s members q = is_open s (has_number members q) q

abbrev pub frees : Shadow → List ℕ → ℕ → Bool
frees s members q = is_free s (has_number members q) q

-- The row with these targets in a VLAN with these members.
unfoldable pub fan_to : Shadow → List ℕ → (ℕ → Bool) → FanRow
fan_to s members target = fan (has_number s.own) target (opens s members) (frees s members)

-- the row of a VLAN with these members
abbrev pub fan_made : Shadow → List ℕ → Fan → FanRow
fan_made s members fan = fan_to s members (λ q. is_target s (has_number members q) fan q)
