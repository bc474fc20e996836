-- When the rows of the chip of a domain stand for a table: each row is the one that the table wants.
-- Source: the kernel's switchdev.rst (a driver mirrors the bridge's state in its device); the rows' layout and their two
-- processor bits are this profile's.
use Rattle.std.specs.Prelude.{◌≡◌, ℕ, ◌<◌, ◌≤◌, ◌==◌, nat_lt, Bool, true, false, not, ◌&&◌, ◌||◌, if◌then◌else◌, List, map}
use Rattle.std.specs.List.{list_any, range_with_len}
use Rattle.std.specs.Option.{unwrap_or}
use Rattle.std.specs.Ordering.{nat_cmp}
use Rattle.br_model.specs.declared.change.Kind.{Kind}
use Rattle.br_model.specs.declared.group.Group.{Group}
use Rattle.br_model.specs.Control.Learning.{is_dynamic}
use Rattle.br_model.specs.Forward.Admission.{is_up, is_forwarding, member}
use Rattle.br_model.specs.Table.DomainPorts.{is_in_domain}
use Rattle.br_model.specs.Table.Domains.{Domains, host, port_places}
use Rattle.br_model.specs.Forward.Eligible.{untagged}
use Rattle.br_model.specs.Table.GroupPairs.{group_pairs}
use Rattle.br_model.specs.Table.Groups.{membership_cmp}
use Rattle.br_model.specs.Data.Maps.{get, has}
use Rattle.br_model.specs.Table.Table.{Table}
use Rattle.br_model.specs.Forward.Targets.{has_flag, flood, mcast_flood, bcast_flood, isolated, knows_querier}
use Rattle.port_sets.specs.Numbers.{numbers_below}
use Rattle.chip_tables.specs.declared.rows.AddressRow.{AddressRow}
use Rattle.chip_tables.specs.declared.rows.VlanRow.{VlanRow}
use Rattle.chip_tables.specs.declared.rows.FanRow.{FanRow}
use Rattle.chip_tables.specs.declared.rows.PortRow.{PortRow}
use Rattle.chip_tables.specs.declared.rows.Control.{Control}
use Rattle.chip_tables.specs.declared.rows.Flood.{Flood}
use Rattle.chip_tables.specs.declared.rows.Flood.TheVariants.{Unicast, Mcast, Bcast}
use Rattle.chip_tables.specs.Rows.{Rows, vlan_at, flood_at, router_at, port_at, trap_at, control_in}

abbrev pub IsVid : ℕ → Type 0
IsVid vid = (1 ≤ vid) × (vid ≤ 4094)

-- the ports that pass, ascending
abbrev pub ports_where : (ℕ → Bool) → List ℕ
ports_where test = numbers_below port_places test

-- whether a port passes
unfoldable pub some_port : (ℕ → Bool) → Bool
some_port test = list_any test (range_with_len 0 port_places)

-- whether the port is on the chip of the domain
abbrev pub is_own : Domains → ℕ → ℕ → Bool
is_own domains dom q = is_in_domain domains dom q

-- Targets of a VLAN's frames. A port with a flag is up and has it.

-- of its flood rows: the members with the flag, and but for unknown stations the host
abbrev pub is_flooded : Table → ℕ → Flood → ℕ → Bool
is_flooded t vid Unicast q = member t q vid && (is_up t q && has_flag t q flood)
is_flooded t vid Mcast q = (q == host) || (member t q vid && (is_up t q && has_flag t q mcast_flood))
is_flooded t vid Bcast q = (q == host) || (member t q vid && (is_up t q && has_flag t q bcast_flood))

-- of its router row: the members behind which a router is
abbrev pub is_routed : Table → ℕ → ℕ → Bool
is_routed t vid q = has nat_cmp t.routers q && member t q vid

-- of the row of a group: its members in the VLAN
abbrev pub is_grouped : Table → ℕ → Group → ℕ → Bool
is_grouped t vid group q = has membership_cmp t.groups (vid, group, q)

-- whether a target may take what came by a plain port of another domain
abbrev pub is_open : Table → ℕ → ℕ → Bool
is_open t vid q = member t q vid && ((q == host) || is_forwarding t q)

-- whether it may take what came by an isolated port of another domain
abbrev pub is_free : Table → ℕ → ℕ → Bool
is_free t vid q = is_open t vid q && ((q == host) || not (has_flag t q isolated))

-- The row has the chip's own ports among the targets. Its bits say whether a target elsewhere may take a frame that came by
-- an isolated and by a plain port of the chip.
abbrev pub fan : (ℕ → Bool) → (ℕ → Bool) → (ℕ → Bool) → (ℕ → Bool) → FanRow
fan own target eligible free = record {
  ports = ports_where (λ q. own q && target q);
  isolated = some_port (λ q. not (own q) && (target q && free q));
  plain = some_port (λ q. not (own q) && (target q && eligible q));
}

-- The rows that a table wants.

abbrev pub vlan_wanted : Table → ℕ → VlanRow
vlan_wanted t vid = record { members = ports_where (λ q. member t q vid); untagged = ports_where (λ q. untagged t q vid) }

abbrev pub fan_wanted : Domains → ℕ → Table → ℕ → (ℕ → Bool) → FanRow
fan_wanted domains dom t vid target = fan (is_own domains dom) target (is_open t vid) (is_free t vid)

abbrev pub port_wanted : Domains → ℕ → Table → ℕ → PortRow
port_wanted domains dom t port = record {
  up = is_up t port;
  state = unwrap_or (get nat_cmp t.state port) 0;
  flags = unwrap_or (get nat_cmp t.flags port) 0;
  pvid = get nat_cmp t.pvid port;
  own = is_own domains dom port;
}

-- Of 01-80-C2-00-00-00 to 0F the first is trapped for the spanning tree, the second never, the others always. Behind them are
-- IGMP and the types of ICMPv6, for snooping.
abbrev pub trap_wanted : Table → ℕ → Bool
trap_wanted t i =
    if i == 0 then t.stp else
    if i == 1 then false else
    if nat_lt i 16 then true else
    t.snoop

abbrev pub control_wanted : Table → Control
control_wanted t = record { snooping = t.snoop; tree = t.stp; four = knows_querier t false; six = knows_querier t true }

abbrev pub address_wanted : ℕ × Kind → AddressRow
address_wanted entry = record { port = entry.0; kind = entry.1; pinned = not (is_dynamic entry.1) }

-- how many traps there are
abbrev pub trap_count : ℕ
trap_count = 21

-- Part by part.

-- Each VLAN row has the VLAN's members and the untagged ones among them, foreign ports and the host too.
abbrev pub VlansStand : Rows → Table → Type 0
VlansStand rows t = (vid : ℕ) → IsVid vid → vlan_at rows vid ≡ vlan_wanted t vid

-- Each flood row has its targets on the chip, and its bits are those of its targets elsewhere.
abbrev pub FloodsStand : Domains → ℕ → Rows → Table → Type 0
FloodsStand domains dom rows t = (vid : ℕ) → IsVid vid → (f : Flood) → flood_at rows vid f ≡ fan_wanted domains dom t vid (is_flooded t vid f)

-- So has each router row.
abbrev pub RoutersStand : Domains → ℕ → Rows → Table → Type 0
RoutersStand domains dom rows t = (vid : ℕ) → IsVid vid → router_at rows vid ≡ fan_wanted domains dom t vid (is_routed t vid)

-- Each port row, that of a foreign port too, has the port's life, state, flags and PVID, and whether it is on the chip.
abbrev pub PortsStand : Domains → ℕ → Rows → Table → Type 0
PortsStand domains dom rows t = (port : ℕ) → port < port_places → port_at rows port ≡ port_wanted domains dom t port

-- Each trap is on or off by whether snooping and the spanning tree are on.
abbrev pub TrapsStand : Rows → Table → Type 0
TrapsStand rows t = (i : ℕ) → i < trap_count → trap_at rows i ≡ trap_wanted t i

-- The control row tells whether snooping and the spanning tree are on, and of which IP versions a querier is known.
abbrev pub ControlStands : Rows → Table → Type 0
ControlStands rows t = control_in rows ≡ control_wanted t

-- There is an address row for each address of each VLAN, with its port and its kind.
abbrev pub AddressesStand : Rows → Table → Type 0
AddressesStand rows t = rows.addresses ≡ map (λ e. (e.0, address_wanted e.1)) t.addr

-- There is a group row for each VLAN and group with members, which is made of these as a flood row of its targets.
abbrev pub GroupsStand : Domains → ℕ → Rows → Table → Type 0
GroupsStand domains dom rows t = rows.groups ≡ map (λ k. (k, fan_wanted domains dom t k.0 (is_grouped t k.0 k.1))) (group_pairs t.groups)

-- The rows of the chip of the domain stand for the table.
pub record Stands (domains : Domains) (dom : ℕ) (rows : Rows) (t : Table) : Type 0 where
  pub vlans : VlansStand rows t
  pub floods : FloodsStand domains dom rows t
  pub routers : RoutersStand domains dom rows t
  pub ports : PortsStand domains dom rows t
  pub traps : TrapsStand rows t
  pub control : ControlStands rows t
  pub addresses : AddressesStand rows t
  pub groups : GroupsStand domains dom rows t
