-- The states of ports: how they follow the roles, and how they come to forwarding.
-- Source: IEEE 802.1D-1998 sections 8.4 (states), 8.6.11 to 8.6.13 (selection) and 8.7.5 (forward delay); the numbers are
-- Linux's.
use Rattle.std.specs.Prelude.{ℕ, ◌+◌, ◌==◌, nat_le, Bool, not, ◌&&◌, ◌||◌, if◌then◌else◌}
use Rattle.std.specs.List.{list_any}
use Rattle.br_model.specs.Forward.Admission.{forwarding}
use Rattle.br_model.specs.declared.tree.TreePort.{TreePort}
use Rattle.br_model.specs.Tree.Tree.{Tree, each}
use Rattle.br_model.specs.Tree.Vectors.{is_active, is_designated}
use Rattle.br_model.specs.Tree.Timers.{forward_delay}

abbrev pub listening : ℕ
listening = 1

abbrev pub learning : ℕ
learning = 2

abbrev pub blocking : ℕ
blocking = 4

-- the state, entered at this moment
abbrev pub enters : ℕ → ℕ → TreePort → TreePort
enters state now x = record x { state = state; since = now }

-- learning or forwarding
abbrev pub is_open : TreePort → Bool
is_open x = x.state == learning || x.state == forwarding

-- A root or designated port that is blocking begins to listen (8.6.12), any other one blocks at once (8.6.13).
abbrev pub by_role : Bool → ℕ → TreePort → TreePort
by_role active now x =
    if active
    then if x.state == blocking then enters listening now x else x
    else if x.state == blocking then x else enters blocking now x

-- Port state selection (8.6.11)
unfoldable pub states_follow : ℕ → Tree → Tree
states_follow now t = record t { ports = each (λ e. by_role (is_active t e) now e.1) t.ports }

-- whether the roles make a learning or forwarding port blocking
abbrev pub is_blocked_by_roles : Tree → Bool
is_blocked_by_roles t = list_any (λ e. is_open e.1 && not (is_active t e)) t.ports

-- Forward delay (8.7.5): a listening or learning port has been so for the delay in use.
abbrev pub is_due : Tree → ℕ → TreePort → Bool
is_due t now x = (x.state == listening || x.state == learning) && nat_le (x.since + forward_delay t) now

-- each port that is due moves one step: from listening to learning, from learning to forwarding
unfoldable pub states_move : ℕ → Tree → Tree
states_move now t = record t { ports = each (λ e. if is_due t now e.1 then enters (e.1.state + 1) now e.1 else e.1) t.ports }

-- whether a port becomes forwarding by that while some port is designated
abbrev pub is_opened_by_time : ℕ → Tree → Bool
is_opened_by_time now t = list_any (λ e. e.1.state == learning && is_due t now e.1) t.ports && list_any (is_designated t) t.ports
