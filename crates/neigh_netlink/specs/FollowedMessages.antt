-- Lines of messages that are taken, one after another.
-- Source: this profile.
use Rattle.std.specs.Prelude.{ℕ, nat_lt, Bool, true, not, ◌&&◌, ◌^◌, List, [], ◌∷◌, ◌++◌, codes}
use Rattle.std.specs.List.{flat_map}
use Rattle.std.specs.Option.{is_some}
use Rattle.neigh_netlink.specs.declared.neigh.Neigh.{Neigh}
use Rattle.neigh_netlink.specs.Messages.{has_ranges, is_message}
use Rattle.neigh_netlink.specs.Monitor.{message_line}
use Rattle.neigh_netlink.specs.Neighbours.{Neighbours, after_message, fault_of}

-- whether it is a message of an address, a VLAN and a port
abbrev pub is_whole : Neigh → Bool
is_whole m = has_ranges m && (nat_lt m.mac (2 ^ 48) && is_message m)

-- whether each message is taken by the table that those before it give
abbrev pub are_taken : Neighbours → List Neigh → Bool
are_taken t [] = true
are_taken t (m ∷ ms) = not (is_some (fault_of t m)) && are_taken (after_message t m) ms

-- a line for each message, and the line `end`
abbrev pub text_of : List Neigh → List ℕ
text_of ms = flat_map message_line ms ++ (codes "end" ++ 10 ∷ [])
