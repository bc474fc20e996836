-- What software decides of a frame, in the words of the bridge's table.
-- Source: IEEE 802.1Q-2018 section 8.6 (the forwarding process).
use Rattle.std.specs.Prelude.{ℕ, if◌then◌else◌}
use Rattle.std.specs.declared.option.Option.{Option}
use Rattle.std.specs.declared.option.Option.TheVariants.{None}
use Rattle.std.specs.Option.{option_map}
use Rattle.br_model.specs.declared.change.Change.{Change}
use Rattle.br_model.specs.Data.Maps.{pair_cmp, get}
use Rattle.br_model.specs.Data.Numbers.{is_multicast}
use Rattle.br_model.specs.Table.Table.{Table, apply, with_addresses}
use Rattle.br_model.specs.Forward.Targets.{port_of}

-- what a change makes of all parts but the addresses
abbrev pub ports_after : Table → Change → Table
ports_after t c = with_addresses (apply t c) t.addr

-- where the entry of a station's address sends, if there is one
abbrev pub known_port : Table → ℕ → ℕ → Option ℕ
known_port t vid address = if is_multicast address then None else option_map port_of (get pair_cmp t.addr (vid, address))
