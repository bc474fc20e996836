-- The audit of a chip: which of the bridge's address entries it has, which it has that the bridge hasn't, and what it waits for.
-- Source: the kernel's switchdev.rst (SWITCHDEV_FDB_OFFLOADED, by which a driver tells that the chip has an entry); that tickets
-- tell it, and what is stale, is this profile's.
use Rattle.std.specs.Prelude.{ℕ, ◌==◌, Bool, false, not, ◌&&◌, List, map}
use Rattle.std.specs.List.{filter}
use Rattle.std.specs.Option.{option_map_or}
use Rattle.br_model.specs.declared.change.Change.{Change}
use Rattle.br_model.specs.declared.change.Kind.{Kind}
use Rattle.br_model.specs.declared.domains.Edition.{Edition}
use Rattle.br_model.specs.Data.Maps.{pair_cmp, get}
use Rattle.br_model.specs.Plane.Chip.{Chip}
use Rattle.br_model.specs.Plane.Runs.{pending_of}
use Rattle.br_model.specs.Plane.World.{World, table_of_chip}
use Rattle.br_model.specs.Table.Table.{Table, table}
use Rattle.neigh_netlink.specs.Neighbours.{Key, same_kind}
use Rattle.neigh_netlink.specs.Offloaded.{offloaded}
use Rattle.chip_audit.specs.declared.entries.Found.{Found}

-- an address entry: its VLAN and address, its port and its kind
abbrev pub Row : Type 0
Row = Key × (ℕ × Kind)

-- Of an entry of the bridge: where it is, and whether a chip that has applied so many deferred changes has it, which is by the last
-- one of its VLAN and address. Each other entry is pending.
abbrev pub found : Edition → List Change → ℕ → Key → ℕ × Kind → Found
found edition history count key place = record { port = place.0; kind = place.1; offloaded = offloaded edition history count key }

-- the entries of the history's table, so
abbrev pub entries_of : Edition → List Change → ℕ → List (Key × Found)
entries_of edition history count = map (λ e. (e.0, found edition history count e.0 e.1)) (table history).addr

abbrev pub same_place : ℕ × Kind → ℕ × Kind → Bool
same_place x y = x.0 == y.0 && same_kind x.1 y.1

-- whether the table has none at the entry's VLAN and address, or one with another port or kind
abbrev pub is_stale : Table → Row → Bool
is_stale t e = not (option_map_or (λ place. same_place place e.1) (get pair_cmp t.addr e.0) false)

-- the entries of the chip's table that are stale by the bridge's
abbrev pub stale : Table → Table → List Row
stale bridge chip = filter (is_stale bridge) chip.addr

-- All lists ascend by VLAN and address.
pub record Audited : Type 0 where
  -- the bridge's entries
  pub entries : List (Key × Found)
  -- the stale ones of the chip
  pub stale : List Row
  -- how many updates the chip hasn't applied: all deferred changes, in edition 2 those of groups too
  pub waiting : ℕ

-- the audit of a chip of the world
abbrev pub audit_of : World → Chip → Audited
audit_of w c = record {
  entries = entries_of w.setup.domains.edition w.history c.count;
  stale = stale (table w.history) (table_of_chip w c);
  waiting = pending_of w c;
}

-- The keys alone.

abbrev pub offloaded_keys : Audited → List Key
offloaded_keys a = map (λ e. e.0) (filter (λ e. e.1.offloaded) a.entries)

abbrev pub pending_keys : Audited → List Key
pending_keys a = map (λ e. e.0) (filter (λ e. not e.1.offloaded) a.entries)

abbrev pub stale_keys : Audited → List Key
stale_keys a = map (λ e. e.0) a.stale
