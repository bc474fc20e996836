-- What is kept of a history, so that the messages of what comes behind it can be told without it.
-- Source: this profile.
use Rattle.std.specs.Prelude.{◌≡◌, ℕ, ◌<◌, ◌==◌, true, ◌&&◌, if◌then◌else◌, List, length, map}
use Rattle.std.specs.Option.{option_and_then, option_map, option_map_or}
use Rattle.std.specs.declared.option.Option.{Option}
use Rattle.std.specs.declared.option.Option.TheVariants.{None, Some}
use Rattle.br_model.specs.declared.change.Change.{Change}
use Rattle.br_model.specs.declared.change.Kind.{Kind}
use Rattle.br_model.specs.declared.change.Update.{Update}
use Rattle.br_model.specs.declared.domains.Edition.{Edition}
use Rattle.br_model.specs.Data.Maps.{pair_cmp, get, put, without}
use Rattle.br_model.specs.Table.Change.{address_part}
use Rattle.br_model.specs.Table.Cut.{deferred_count}
use Rattle.br_model.specs.Table.DomainPorts.{is_in_domain}
use Rattle.br_model.specs.Table.Domains.{Domains}
use Rattle.br_model.specs.Table.Table.{table}
use Rattle.neigh_netlink.specs.declared.neigh.Neigh.{Neigh}
use Rattle.neigh_netlink.specs.declared.lasts.Last.{Last}
use Rattle.neigh_netlink.specs.Monitor.{entry_message, put_message}
use Rattle.neigh_netlink.specs.Neighbours.{Key}
use Rattle.neigh_netlink.specs.Offloaded.{last_update}

pub record Kept : Type 0 where
  pub domains : Domains
  -- how many deferred changes there were: the ticket of the next one
  pub count : ℕ
  -- the entries of the table, each with the ticket of its last deferred change, ascending by VLAN and address
  pub entries : List (Key × Last)

-- the entry of a place in the history's table; one that stands there has a last change
abbrev pub last_at : Edition → List Change → Key → ℕ × Kind → Last
last_at edition history key e = record { ticket = option_map_or (λ u. u.ticket) (last_update edition history key) 0; port = e.0; kind = e.1 }

abbrev pub kept_of : Domains → List Change → Kept
kept_of domains history = record {
  domains = domains;
  count = deferred_count domains.edition history;
  entries = map (λ e. (e.0, last_at domains.edition history e.0 e.1)) (table history).addr;
}

-- A change is accepted under this ticket, if it is of an entry.

-- an entry that is put
abbrev pub last_put : ℕ → ℕ × Kind → Last
last_put ticket e = record { ticket = ticket; port = e.0; kind = e.1 }

-- the entries after it, where it puts one at the address or deletes the one that is there
abbrev pub stands_after : ℕ → List (Key × Last) → Key → Option (ℕ × Kind) → List (Key × Last)
stands_after ticket entries key (Some e) = put pair_cmp entries key (last_put ticket e)
stands_after ticket entries key None = without pair_cmp entries key

abbrev pub entries_after : ℕ → List (Key × Last) → Option (Key × Option (ℕ × Kind)) → List (Key × Last)
entries_after ticket entries None = entries
entries_after ticket entries (Some p) = stands_after ticket entries p.0 p.1

abbrev pub place_of : Last → ℕ × Kind
place_of last = (last.port, last.kind)

-- whether there is room for it, if it puts an entry at a new address
abbrev pub PutsWithin : List (Key × Last) → ℕ → Option (Key × Option (ℕ × Kind)) → Type 0
PutsWithin entries room part = (p : Key × (ℕ × Kind)) → part ≡ Some (p.0, Some p.1) → get pair_cmp entries p.0 ≡ None → length entries < room

-- its message
abbrev pub told_by : ℕ → List (Key × Last) → Option (Key × Option (ℕ × Kind)) → Option Neigh
told_by ticket entries part =
    option_and_then (λ p. entry_message ticket p.0 (option_map place_of (get pair_cmp entries p.0)) p.1) part

-- What is told of a turn of the domain's chip, by what is kept alone.

-- of an entry that the update puts, where that was its last change
abbrev pub offload_by : Kept → ℕ → ℕ → Key → ℕ × Kind → Option Neigh
offload_by kept dom ticket key e = option_and_then
    (λ last. if is_in_domain kept.domains dom e.0 && last.ticket == ticket then Some (put_message ticket key e true) else None)
    (get pair_cmp kept.entries key)

abbrev pub turn_by : Kept → ℕ → Option Update → Option Neigh
turn_by kept dom update = option_and_then
    (λ u. option_and_then (λ p. option_and_then (offload_by kept dom u.ticket p.0) p.1) (address_part u.change))
    update
