-- The entries that stand after a chip's rows and the updates that it hasn't applied, each marked whether the chip has it.
-- Source: this profile.
use Rattle.std.specs.Prelude.{ℕ, ◌+◌, Bool, true, false, not, List, map, take, drop}
use Rattle.std.specs.List.{list_any}
use Rattle.std.specs.Option.{option_map, option_map_or}
use Rattle.std.specs.declared.option.Option.{Option}
use Rattle.std.specs.declared.option.Option.TheVariants.{None, Some}
use Rattle.br_model.specs.declared.change.Change.{Change}
use Rattle.br_model.specs.declared.change.Kind.{Kind}
use Rattle.br_model.specs.declared.domains.Edition.{Edition}
use Rattle.br_model.specs.Data.Maps.{pair_cmp, get, put, without}
use Rattle.br_model.specs.Table.Cut.{cut, deferred_of}
use Rattle.br_model.specs.Table.Table.{table}
use Rattle.chip_tables.specs.declared.rows.AddressRow.{AddressRow}
use Rattle.chip_tables.specs.Rows.{Rows, address_at}
use Rattle.neigh_netlink.specs.Neighbours.{Key}
use Rattle.neigh_netlink.specs.Offloaded.{is_of_key}
use Rattle.chip_audit.specs.declared.entries.Found.{Found}
use Rattle.chip_audit.specs.Audits.{Row, same_place}

abbrev pub Entries : Type 0
Entries = List (Key × Found)

-- an entry of a chip, as an address row has it
abbrev pub row_of : Key × AddressRow → Row
row_of e = (e.0, (e.1.port, e.1.kind))

-- what the row of a key says, if one is used for it
abbrev pub row_at : Rows → Key → Option Row
row_at rows key = option_map (λ row. row_of (key, row)) (address_at rows key.0 key.1)

abbrev pub marked : Bool → ℕ × Kind → Found
marked offloaded place = record { port = place.0; kind = place.1; offloaded = offloaded }

-- the chip's entries, which it has
abbrev pub all_offloaded : List Row → Entries
all_offloaded rows = map (λ e. (e.0, marked true e.1)) rows

-- the entries after an update that the chip hasn't applied, where it puts an entry or deletes one
abbrev pub stands_after : Entries → Key → Option (ℕ × Kind) → Entries
stands_after entries key None = without pair_cmp entries key
stands_after entries key (Some place) = put pair_cmp entries key (marked false place)

abbrev pub entries_after : Entries → Option (Key × Option (ℕ × Kind)) → Entries
entries_after entries None = entries
entries_after entries (Some p) = stands_after entries p.0 p.1

-- whether one of the changes is of the entry
abbrev pub is_named : List Change → Key → Bool
is_named changes key = list_any (is_of_key key) changes

-- so many updates from a ticket on
abbrev pub updates_from : Edition → List Change → ℕ → ℕ → List Change
updates_from edition history count more = take more (drop count (deferred_of edition history))

-- the entries after the rows of a chip that has applied `count` updates and so many more
abbrev pub entries_at : Edition → List Change → ℕ → ℕ → Entries
entries_at edition history count more =
    map (λ e. (e.0, marked (not (is_named (updates_from edition history count more) e.0)) e.1)) (table (cut edition history (count + more))).addr

abbrev pub place_of : Found → ℕ × Kind
place_of e = (e.port, e.kind)

-- whether an entry is there with this port and kind
abbrev pub is_at : ℕ × Kind → Option Found → Bool
is_at place there = option_map_or (λ e. same_place (place_of e) place) there false

-- whether no entry is at the row's VLAN and address, or one with another port or kind
abbrev pub is_gone : Entries → Row → Bool
is_gone entries row = not (is_at row.1 (get pair_cmp entries row.0))
