-- What the chip's tables hold: for each bank the list of its rows, as numbers, and how their fields are read.
-- Source: the layout is this program's own; what the rows tell is what the kernel tells a switchdev driver (switchdev.rst).
use Rattle.std.specs.Prelude.{◌≡◌, ℕ, zero, suc, ◌+◌, ◌*◌, ◌≤◌, ◌==◌, ◌&&◌, nat_le, Bool, true, false}
use Rattle.std.specs.Prelude.{cond, if◌then◌else◌, List, [], ◌∷◌, length, map, filter_map, slice_index, slice_get, is_some, IsPermutation}
use Rattle.std.specs.List.Sorted.{IsStrictlySortedBy}
use Rattle.std.specs.declared.cmp.Ordering.{Ordering}
use Rattle.br_model.specs.declared.group.Group.{Group}
use Rattle.std.specs.declared.option.Option.{Option}
use Rattle.std.specs.declared.option.Option.TheVariants.{None, Some}
use Rattle.br_model.specs.declared.change.Kind.{Kind}
use Rattle.br_model.specs.declared.change.Kind.TheVariants.{Local, Static, Learned, Extern}
use Rattle.br_model.specs.Control.Learning.{is_extern}
use Rattle.port_sets.specs.Words.{members}
use Rattle.chip_regs.specs.Rows.{field}
use Rattle.br_model.specs.Data.Maps.{pair_cmp, get, put, without}
use Rattle.br_model.specs.Table.GroupPairs.{GroupPair, group_pair_cmp}
use Rattle.br_model.specs.Table.Domains.{last_port}
use Rattle.chip_tables.specs.declared.rows.VlanRow.{VlanRow}
use Rattle.chip_tables.specs.declared.rows.FanRow.{FanRow}
use Rattle.chip_tables.specs.declared.rows.PortRow.{PortRow}
use Rattle.chip_tables.specs.declared.rows.AddressRow.{AddressRow}
use Rattle.chip_tables.specs.declared.rows.Control.{Control}
use Rattle.chip_tables.specs.declared.rows.Flood.{Flood}
use Rattle.chip_tables.specs.declared.rows.Flood.TheVariants.{Unicast, Mcast, Bcast}

-- ---- fields

abbrev pub is_on : ℕ → ℕ → Bool
is_on row at = field row at 1 == 1

-- the four words from a place on, the first the least
abbrev pub words_from : ℕ → ℕ → List ℕ
words_from row at = field row at 64 ∷ field row (at + 64) 64 ∷ field row (at + 128) 64 ∷ field row (at + 192) 64 ∷ []

-- the ports whose bits are set in the words from a place on
abbrev pub ports_from : ℕ → ℕ → List ℕ
ports_from row at = members 4 (words_from row at)

-- the fields that end at a place or before it stay
abbrev pub KeepsBefore : ℕ → ℕ → ℕ → Type 0
KeepsBefore place old new = (at width : ℕ) → at + width ≤ place → field new at width ≡ field old at width

abbrev pub vlan_of : ℕ → VlanRow
vlan_of row = record { members = ports_from row 0; untagged = ports_from row 256 }

abbrev pub fan_of : ℕ → FanRow
fan_of row = record { ports = ports_from row 0; isolated = is_on row 256; plain = is_on row 257 }

-- a VLAN, which is from 1 to 4094
abbrev pub pvid_from : Bool → ℕ → Option ℕ
pvid_from has vid = cond (has && (nat_le 1 vid && nat_le vid 4094)) (Some vid) None

abbrev pub port_of : ℕ → PortRow
port_of row = record { up = is_on row 0; state = field row 1 3; flags = field row 4 6; pvid = pvid_from (is_on row 10) (field row 11 12); own = is_on row 23 }

abbrev pub control_of : ℕ → Control
control_of row = record { snooping = is_on row 0; tree = is_on row 1; four = is_on row 2; six = is_on row 3 }

abbrev pub kind_of : ℕ → Kind
kind_of zero = Local
kind_of (suc zero) = Static
kind_of (suc (suc zero)) = Learned
kind_of (suc (suc (suc n))) = Extern

-- a port, which is at most the last
abbrev pub port_from : ℕ → ℕ
port_from n = cond (nat_le n last_port) n 0

abbrev pub address_of : ℕ → AddressRow
address_of row = record { port = port_from (field row 60 8); kind = kind_of (field row 68 2); pinned = is_on row 70 }

-- the VLAN and the address of an address row, 0 where it isn't used
abbrev pub key_of : ℕ → ℕ
key_of row = field row 0 60

unfoldable pub packed : ℕ → ℕ → ℕ
packed vid mac = vid + 4096 * mac

-- ---- banks

pub record Rows : Type 0 where
  -- at a VLAN
  pub vlans : List ℕ
  pub unicast : List ℕ
  pub mcast : List ℕ
  pub bcast : List ℕ
  pub routers : List ℕ
  -- at a port
  pub ports : List ℕ
  -- 16 addresses of the link-local block, IGMP, and ICMPv6 types 130, 131, 132 and 143
  pub traps : List ℕ
  pub control : List ℕ
  -- the used address rows by VLAN and address, ascending
  pub addresses : List ((ℕ × ℕ) × AddressRow)
  -- the VLAN and the address of each of the 32,768 address rows, None where the row isn't used
  pub places : List (Option (ℕ × ℕ))
  -- the used group rows by VLAN and group, ascending
  pub groups : List (GroupPair × FanRow)

-- ---- readers

abbrev pub vlan_at : Rows → ℕ → VlanRow
vlan_at rows vid = vlan_of (slice_index rows.vlans vid)

abbrev pub flood_bank : Rows → Flood → List ℕ
flood_bank rows Unicast = rows.unicast
flood_bank rows Mcast = rows.mcast
flood_bank rows Bcast = rows.bcast

abbrev pub flood_at : Rows → ℕ → Flood → FanRow
flood_at rows vid f = fan_of (slice_index (flood_bank rows f) vid)

abbrev pub router_at : Rows → ℕ → FanRow
router_at rows vid = fan_of (slice_index rows.routers vid)

abbrev pub port_at : Rows → ℕ → PortRow
port_at rows port = port_of (slice_index rows.ports port)

abbrev pub trap_at : Rows → ℕ → Bool
trap_at rows i = is_on (slice_index rows.traps i) 0

abbrev pub control_in : Rows → Control
control_in rows = control_of (slice_index rows.control 0)

abbrev pub address_at : Rows → ℕ → ℕ → Option AddressRow
address_at rows vid mac = get pair_cmp rows.addresses (vid, mac)

abbrev pub group_at : Rows → ℕ → Group → Option FanRow
group_at rows vid group = get group_pair_cmp rows.groups (vid, group)

-- ---- writers: the row reads as written, and every other row of the bank stays

abbrev pub same_flood : Flood → Flood → Bool
same_flood Unicast Unicast = true
same_flood Unicast Mcast = false
same_flood Unicast Bcast = false
same_flood Mcast Unicast = false
same_flood Mcast Mcast = true
same_flood Mcast Bcast = false
same_flood Bcast Unicast = false
same_flood Bcast Mcast = false
same_flood Bcast Bcast = true

abbrev pub WritesVlan : Rows → Rows → ℕ → VlanRow → Type 0
WritesVlan old new vid row = (v : ℕ) → vlan_at new v ≡ (if v == vid then row else vlan_at old v)

abbrev pub WritesFlood : Rows → Rows → ℕ → Flood → FanRow → Type 0
WritesFlood old new vid f row = (v : ℕ) (g : Flood) → flood_at new v g ≡ (if v == vid && same_flood g f then row else flood_at old v g)

abbrev pub WritesRouter : Rows → Rows → ℕ → FanRow → Type 0
WritesRouter old new vid row = (v : ℕ) → router_at new v ≡ (if v == vid then row else router_at old v)

abbrev pub WritesPort : Rows → Rows → ℕ → PortRow → Type 0
WritesPort old new port row = (p : ℕ) → port_at new p ≡ (if p == port then row else port_at old p)

abbrev pub WritesTrap : Rows → Rows → ℕ → Bool → Type 0
WritesTrap old new i on = (j : ℕ) → trap_at new j ≡ (if j == i then on else trap_at old j)

-- ---- rows that are named by a key

-- the rows with this one at the key, or with none there
abbrev pub set_at : {K X : Type 0} → (K → K → Ordering) → List (K × X) → K → Option X → List (K × X)
set_at R rows k None = without R rows k
set_at R rows k (Some row) = put R rows k row

-- the entry at a place, if a chip learned it
abbrev pub extern_if : ℕ × ℕ → Option AddressRow → Option ((ℕ × ℕ) × AddressRow)
extern_if key None = None
extern_if key (Some row) = if is_extern row.kind then Some (key, row) else None

abbrev pub extern_at : Rows → Option (ℕ × ℕ) → Option ((ℕ × ℕ) × AddressRow)
extern_at rows None = None
extern_at rows (Some key) = extern_if key (address_at rows key.0 key.1)

abbrev pub addresses_with : Rows → ℕ → ℕ → Option AddressRow → List ((ℕ × ℕ) × AddressRow)
addresses_with rows vid mac row = set_at pair_cmp rows.addresses (vid, mac) row

abbrev pub groups_with : Rows → ℕ → Group → Option FanRow → List (GroupPair × FanRow)
groups_with rows vid group row = set_at group_pair_cmp rows.groups (vid, group) row

abbrev pub address_rows : ℕ
address_rows = 32768

-- The key of an address row that is used stands at exactly one place, and the key at a place is that of a used row.
pub record IsPlaced (rows : Rows) : Type 0 where
  pub sized : length rows.places ≡ address_rows
  pub used : (i : ℕ) (k : ℕ × ℕ) → slice_get rows.places i ≡ Some (Some k) → is_some (address_at rows k.0 k.1) ≡ true
  pub placed : (vid mac : ℕ) → is_some (address_at rows vid mac) ≡ true → (i : ℕ) × (slice_get rows.places i ≡ Some (Some (vid, mac)))
  pub once : (i j : ℕ) (k : ℕ × ℕ) → slice_get rows.places i ≡ Some (Some k) → slice_get rows.places j ≡ Some (Some k) → i ≡ j
  -- so the keys at all places are those of the used rows in another order
  pub moved : IsPermutation (filter_map (λ place. place) rows.places) (map (λ e. e.0) rows.addresses)
  pub ascending : IsStrictlySortedBy pair_cmp (map (λ e. e.0) rows.addresses)
