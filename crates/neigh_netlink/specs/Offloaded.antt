-- Which address entries the chip of a domain has: those whose last deferred change it has applied, where that puts them.
-- Source: the kernel's switchdev.rst (SWITCHDEV_FDB_OFFLOADED, by which a driver tells that the chip has an entry); that the tickets of
-- deferred changes tell it is this profile's.
use Rattle.std.specs.Prelude.{ℕ, nat_lt, Bool, false, ◌&&◌, List, map}
use Rattle.std.specs.List.{filter, last_or}
use Rattle.std.specs.Option.{is_some, option_and_then, option_map, option_map_or}
use Rattle.std.specs.Ordering.{eq_by_cmp}
use Rattle.std.specs.declared.option.Option.{Option}
use Rattle.std.specs.declared.option.Option.TheVariants.{None}
use Rattle.br_model.specs.declared.change.Change.{Change}
use Rattle.br_model.specs.declared.change.Kind.{Kind}
use Rattle.br_model.specs.declared.change.Update.{Update}
use Rattle.br_model.specs.declared.domains.Edition.{Edition}
use Rattle.br_model.specs.Data.Maps.{pair_cmp}
use Rattle.br_model.specs.Plane.Entering.{chip_of}
use Rattle.br_model.specs.Plane.World.{World}
use Rattle.br_model.specs.Table.Change.{address_part, updates}
use Rattle.br_model.specs.Table.Domains.{domain_of}
use Rattle.br_model.specs.Table.Table.{table}
use Rattle.neigh_netlink.specs.Neighbours.{Key, Neighbours}

-- whether the change is of the entry at this VLAN and address
abbrev pub is_of_key : Key → Change → Bool
is_of_key key c = option_map_or (λ p. eq_by_cmp pair_cmp key p.0) (address_part c) false

-- the last deferred change of the entry, with its ticket
abbrev pub last_update : Edition → List Change → Key → Option Update
last_update edition history key = last_or None (filter (λ u. is_of_key key u.change) (updates edition history))

-- the port and the kind that an update puts at its address
abbrev pub put_by : Update → Option (ℕ × Kind)
put_by u = option_and_then (λ p. p.1) (address_part u.change)

-- whether the update puts an entry, and is one of so many first ones
abbrev pub puts_among : ℕ → Update → Bool
puts_among count u = is_some (put_by u) && nat_lt u.ticket count

-- Whether a chip that has applied so many deferred changes of a history has the entry: the last one of the entry puts it, with a ticket
-- below the count.
abbrev pub offloaded : Edition → List Change → ℕ → Key → Bool
offloaded edition history count key = option_map_or (puts_among count) (last_update edition history key) false

-- Of an entry that stands at a port.

-- how many deferred changes the chip of the port's domain has applied; none where it has no chip
abbrev pub applied_at : World → ℕ → Option ℕ
applied_at w port = option_map (λ c. c.count) (chip_of w (domain_of w.setup.domains port))

-- whether the port is in the domain of a chip, and that has the entry
abbrev pub is_offloaded : World → Key → ℕ → Bool
is_offloaded w key port = option_map_or (λ count. offloaded w.setup.domains.edition w.history count key) (applied_at w port) false

-- the entries of the bridge's table, each with whether it is offloaded
abbrev pub entries_of : World → Neighbours
entries_of w = map (λ e. (e.0, record { port = e.1.0; kind = e.1.1; offload = is_offloaded w e.0 e.1.0 })) (table w.history).addr
