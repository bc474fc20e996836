-- The table that messages give: where each address of a VLAN is, how it came there, and whether a chip has it.
-- Source: rtnetlink(7) (RTM_NEWNEIGH adds or replaces an entry, RTM_DELNEIGH takes it out), linux/neighbour.h (NTF_OFFLOADED); what is
-- refused, and the limit, is this profile's.
use Rattle.std.specs.Prelude.{ℕ, ◌==◌, nat_lt, Bool, false, ◌&&◌, ◌||◌, if◌then◌else◌, List, [], length, map}
use Rattle.std.specs.List.{fold}
use Rattle.std.specs.declared.option.Option.{Option}
use Rattle.std.specs.declared.option.Option.TheVariants.{None, Some}
use Rattle.std.specs.Option.{is_some}
use Rattle.br_model.specs.contracts.change.KindPartialEq.TheImpl.{ghosts as derived}
use Rattle.br_model.specs.declared.change.Kind.{Kind}
use Rattle.br_model.specs.Data.Maps.{pair_cmp, get, put, without}
use Rattle.br_model.specs.Table.Limits.{most_addresses}
use Rattle.neigh_netlink.specs.declared.neigh.Neigh.{Neigh}
use Rattle.neigh_netlink.specs.declared.table.TakeFault.{TakeFault}
use Rattle.neigh_netlink.specs.declared.table.TakeFault.TheVariants.{Absent, Full}
use Rattle.neigh_netlink.specs.declared.entries.Entry.{Entry}

-- a VLAN and an address
abbrev pub Key : Type 0
Key = ℕ × ℕ

-- the entries, ascending by VLAN and address
abbrev pub Neighbours : Type 0
Neighbours = List (Key × Entry)

abbrev pub key_of : Neigh → Key
key_of m = (m.vid, m.mac)

abbrev pub entry_of : Neigh → Entry
entry_of m = record { port = m.port; kind = m.kind; offload = m.offload }

-- An entry that came or changed stands at its address, and one that went is gone.
abbrev pub after_message : Neighbours → Neigh → Neighbours
after_message t m = if m.new then put pair_cmp t (key_of m) (entry_of m) else without pair_cmp t (key_of m)

-- the table of messages, in their order
abbrev pub table_of : List Neigh → Neighbours
table_of messages = fold after_message [] messages

-- Which messages can't be taken.

abbrev pub same_kind : Kind → Kind → Bool
same_kind = derived.eq

-- whether the entry that stands there has this port and kind
abbrev pub is_of : ℕ → Kind → Option Entry → Bool
is_of port kind None = false
is_of port kind (Some e) = e.port == port && same_kind e.kind kind

-- An entry that comes wants room, unless its address is there; one that goes is to be there with its port and kind.
abbrev pub fault_at : Neighbours → Neigh → Option Entry → Option TakeFault
fault_at t m there =
    if m.new
    then (if is_some there || nat_lt (length t) most_addresses then None else Some Full)
    else (if is_of m.port m.kind there then None else Some Absent)

abbrev pub fault_of : Neighbours → Neigh → Option TakeFault
fault_of t m = fault_at t m (get pair_cmp t (key_of m))

-- an entry as it is listed: VLAN, address, port, kind, and whether a chip has it
abbrev pub Row : Type 0
Row = ℕ × ℕ × ℕ × Kind × Bool

abbrev pub row : Key × Entry → Row
row e = (e.0.0, e.0.1, e.1.port, e.1.kind, e.1.offload)

abbrev pub rows : Neighbours → List Row
rows t = map row t

-- the port and the kind alone, as the bridge's table has them
abbrev pub place : Entry → ℕ × Kind
place e = (e.port, e.kind)

abbrev pub addresses : Neighbours → List (Key × (ℕ × Kind))
addresses t = map (λ e. (e.0, place e.1)) t
