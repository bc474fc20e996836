-- The times of the spanning tree: which are in use, how old a message is, and what is due.
-- Source: IEEE 802.1D-1998 sections 8.5.4 and 8.5.6 (timers), 8.6.3 (times of the root), 8.7.3 to 8.7.8 (expiry) and 8.10
-- (values). How moments in milliseconds and times in 1/256 s are turned into one another is this profile's.
use Rattle.std.specs.Prelude.{ℕ, ◌+◌, ◌-◌, ◌*◌, ◌/◌, ◌%◌, ◌==◌, nat_lt, nat_le, Bool, false, ◌&&◌, if◌then◌else◌}
use Rattle.std.specs.declared.option.Option.{Option}
use Rattle.std.specs.declared.option.Option.TheVariants.{None, Some}
use Rattle.std.specs.Option.{is_some, option_map_or}
use Rattle.br_model.specs.declared.tree.Stamped.{Stamped}
use Rattle.br_model.specs.declared.tree.Times.{Times}
use Rattle.br_model.specs.declared.tree.TreePort.{TreePort}
use Rattle.br_model.specs.Tree.Tree.{Tree, each}
use Rattle.br_model.specs.Tree.Vectors.{root_kept}

-- units, both rounded down

abbrev pub milliseconds : ℕ → ℕ
milliseconds ticks = 1000 * ticks / 256

abbrev pub ticks : ℕ → ℕ
ticks ms = 256 * ms / 1000

-- times in use, in 1/256 s

-- 20 s, 2 s and 15 s
abbrev pub root_times : Times
root_times = record { max = 5120; hello = 512; delay = 3840 }

abbrev pub times_of : Option Stamped → Times
times_of None = root_times
times_of (Some k) = record { max = k.message.max; hello = k.message.hello; delay = k.message.delay }

-- the root bridge's own, elsewhere those that the root port has kept
abbrev pub times : Tree → Times
times t = times_of (root_kept t)

abbrev pub forward_delay : Tree → ℕ
forward_delay t = milliseconds (times t).delay

-- Message age (8.7.4): what is left of the max age when a message came is over.
abbrev pub is_aged_out : ℕ → Stamped → Bool
is_aged_out now k = nat_le (k.moment + milliseconds (k.message.max - k.message.age)) now

-- nothing that has aged out is kept
unfoldable pub forgets : ℕ → Tree → Tree
forgets now t = record t { ports = each (λ e. if option_map_or (is_aged_out now) e.1.kept false then record e.1 { kept = None } else e.1) t.ports }

-- Hold (8.7.8): less than a second is over since the last configuration message.
abbrev pub hold_time : ℕ
hold_time = 1000

abbrev pub is_held : ℕ → TreePort → Bool
is_held now x = option_map_or (λ s. nat_lt now (s.moment + hold_time)) x.last false

-- Hello (8.7.3)
abbrev pub hello_time : ℕ
hello_time = 2000

abbrev pub is_hello_due : ℕ → Tree → Bool
is_hello_due now t = nat_le (t.hello + hello_time) now

-- Topology change notification (8.7.6)
abbrev pub tcn_time : ℕ
tcn_time = 2000

abbrev pub is_tcn_due : ℕ → Tree → Bool
is_tcn_due now t = option_map_or (λ m. nat_le (m + tcn_time) now) t.notified false

-- Topology change (8.7.7): max age and forward delay of the root together
abbrev pub change_time : ℕ
change_time = 35000

abbrev pub change_ends : ℕ → Tree → Tree
change_ends now t = if option_map_or (λ m. nat_le m now) t.change_end false then record t { change_end = None } else t

-- Whether a topology change is on: at the root until it ends, elsewhere where the root says so (bit 0).
abbrev pub change_by : Tree → Option Stamped → Bool
change_by t None = is_some t.change_end
change_by t (Some k) = k.message.flags % 2 == 1

abbrev pub is_changing : Tree → Bool
is_changing t = change_by t (root_kept t)

-- the time after which learned addresses age while a topology change is on (8.3.5)
abbrev pub hold : Tree → Option ℕ
hold t = if t.on && is_changing t then Some (forward_delay t) else None
