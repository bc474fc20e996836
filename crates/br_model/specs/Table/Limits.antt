-- What a bridge and a run hold at most.
-- Source: this profile.
use Rattle.std.specs.Prelude.{ℕ, ◌<◌, ◌≤◌, nat_le, nat_lt, Bool, true, ◌&&◌, ◌||◌, IsTrue, List, [], ◌∷◌, length, take, get_or}
use Rattle.std.specs.Option.{is_some}
use Rattle.br_model.specs.declared.change.Asks.{Asks}
use Rattle.br_model.specs.declared.change.Asks.TheVariants.{Nothing, State, GroupRoom, AddressRoom}
use Rattle.br_model.specs.declared.change.Change.{Change}
use Rattle.br_model.specs.Table.Change.{asks}
use Rattle.br_model.specs.Table.GroupPairs.{has_room}
use Rattle.br_model.specs.Data.Maps.{pair_cmp, get}
use Rattle.br_model.specs.Table.Table.{Table, apply, table}

-- bytes that are read of an input: 2^28
abbrev pub most_bytes : ℕ
most_bytes = 268435456

-- and in a run by workers: 2^22
abbrev pub most_live_bytes : ℕ
most_live_bytes = 4194304

-- changes of a run
abbrev pub most_changes : ℕ
most_changes = 1048576

-- frames that wait or are held
abbrev pub most_waiting : ℕ
most_waiting = 4096

-- reports of a chip that wait
abbrev pub most_reports : ℕ
most_reports = 256

-- address entries
abbrev pub most_addresses : ℕ
most_addresses = 16384

-- Whether the table has what is asked for: a group that is there may have more members, and an address that is there may move;
-- a new one wants room. The states are 0 to 4.
abbrev pub grants : Table → Asks → Bool
grants t Nothing = true
grants t (State state) = nat_le state 4
grants t (GroupRoom vid group) = has_room t.groups vid group
grants t (AddressRoom vid mac) = is_some (get pair_cmp t.addr (vid, mac)) || nat_lt (length t.addr) most_addresses

-- Whether the table holds its limits after the change.
abbrev pub fits : Table → Change → Bool
fits t c = grants t (asks c)

-- whether each of the changes fits the table that it finds, which those before it have made
abbrev pub all_fit : Table → List Change → Bool
all_fit t [] = true
all_fit t (c ∷ later) = fits t c && all_fit (apply t c) later

-- What holds of a history: there are not too many changes, and each fits the table of those before it.
pub record AreWithin (history : List Change) : Type 0 where
  pub few : length history ≤ most_changes
  pub fit : (i : ℕ) (d : Change) → i < length history → IsTrue (fits (table (take i history)) (get_or history i d))
