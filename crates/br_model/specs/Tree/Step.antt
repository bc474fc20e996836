-- What happens in the spanning tree: each event is a composition of the rules, in their order.
-- Source: IEEE 802.1D-1998 sections 8.7 (received messages, timers) and 8.8 (management). The order within one event is this
-- profile's: what is kept, roles, states, detections, messages, acknowledgement. So is it within one moment, where each
-- timer fires at most once.
use Rattle.std.specs.Prelude.{ℕ, ◌/◌, ◌%◌, ◌==◌, nat_le, Bool, true, false, not, ◌&&◌, ◌||◌, if◌then◌else◌, List, [], ◌∷◌, ◌++◌, map}
use Rattle.std.specs.List.{filter, filter_map}
use Rattle.std.specs.declared.option.Option.{Option}
use Rattle.std.specs.declared.option.Option.TheVariants.{None, Some}
use Rattle.std.specs.Option.{is_some, option_map, option_map_or, option_and_then, option_to_list}
use Rattle.std.specs.Ordering.{nat_cmp}
use Rattle.br_model.specs.declared.bpdu.BpduMsg.{BpduMsg}
use Rattle.br_model.specs.declared.bpdu.BpduMsg.TheVariants.{Config, Tcn}
use Rattle.br_model.specs.Forward.Admission.{forwarding}
use Rattle.br_model.specs.Data.Maps.{put, without}
use Rattle.br_model.specs.declared.tree.ConfigMsg.{ConfigMsg}
use Rattle.br_model.specs.declared.tree.TreeEvent.{TreeEvent}
use Rattle.br_model.specs.declared.tree.TreeEvent.TheVariants.{Switch, Up, Down, Message, Moment, Cost, PortPriority, Priority}
use Rattle.br_model.specs.declared.tree.TreePort.{TreePort}
use Rattle.br_model.specs.Tree.Tree.{Tree, fresh, bpdu_of, numbers, port_at, state_at, each, at_port}
use Rattle.br_model.specs.Tree.Vectors.{root_of, is_root, is_root_port, is_designated, roles, keeps}
use Rattle.br_model.specs.Tree.Timers.{forgets, is_hello_due, is_tcn_due, change_ends}
use Rattle.br_model.specs.Tree.States.{blocking, enters, states_follow, is_blocked_by_roles, states_move, is_opened_by_time}
use Rattle.br_model.specs.Tree.Sending.{Acted, quiet, transmit, generate, sends_put_off, notify, detected, detected_if}

-- Whether this bridge becomes the root, or stops being it, from the tree before the event to this one.
abbrev pub becomes_root : Tree → Tree → Bool
becomes_root before t = not (is_root before) && is_root t

abbrev pub stops_being_root : Tree → Tree → Bool
stops_being_root before t = is_root before && not (is_root t)

-- Who becomes the root owes no notification, and counts hellos from now; who stops being it ends its topology change.
abbrev pub hands_over : Tree → ℕ → Tree → Tree
hands_over before now t =
    if becomes_root before t then record t { notified = None; hello = now } else
    if stops_being_root before t then record t { change_end = None } else
    t

-- Whether a topology change is detected once roles are taken: a port is blocked by them, this bridge becomes the root, or it
-- stops being the root by a kept message while its topology change is on.
abbrev pub detects : Bool → Tree → Tree → Bool
detects kept before t =
    is_blocked_by_roles t || (becomes_root before t || (kept && (stops_being_root before t && is_some before.change_end)))

-- who becomes the root sends on each designated port
abbrev pub greets_as_root : Tree → ℕ → Acted → Acted
greets_as_root before now a = if becomes_root before a.tree then generate now a else a

-- What follows once roles are taken: states, who is the root, detections, messages.
abbrev pub roles_taken : Bool → Tree → ℕ → Tree → Acted
roles_taken kept before now t =
    greets_as_root before now (detected_if (detects kept before t) now (quiet (hands_over before now (states_follow now t))))

-- What follows on a change of the tree before the event; `kept` where the change is a message that was kept.
unfoldable pub settled : Bool → Tree → ℕ → Tree → Acted
settled kept before now t = roles_taken kept before now (roles t)

-- while the tree is off nothing follows
abbrev pub follows : Tree → ℕ → Tree → Acted
follows before now t = if t.on then settled false before now t else quiet t

-- Management (8.8)

-- nothing kept, sent or owed; cost and priority stay
abbrev pub restarted : ℕ → ℕ → TreePort → TreePort
restarted state now x = record (enters state now x) { kept = None; last = None; put_off = false; owed = false }

abbrev pub off_at : ℕ → Tree → Tree
off_at now t = record t { on = false; ports = each (λ e. restarted forwarding now e.1) t.ports; change_end = None; notified = None }

abbrev pub on_at : ℕ → Tree → Tree
on_at now t = record t { on = true; ports = each (λ e. restarted blocking now e.1) t.ports; change_end = None; notified = None; hello = now }

-- Switched on, every port begins at blocking, roles are applied and messages go out (8.8.1): the bridge is the root, and no
-- topology change is detected. Switched off, every port forwards.
abbrev pub switched : Tree → ℕ → Bool → Acted
switched t now true = generate now (quiet (states_follow now (roles (on_at now t))))
switched t now false = quiet (off_at now t)

-- a port comes up (8.8.2)
abbrev pub port_up : Tree → ℕ → ℕ → Acted
port_up t now p = follows t now (record t { ports = put nat_cmp t.ports p (fresh (if t.on then blocking else forwarding) now) })

-- a port goes down (8.8.3)
abbrev pub port_down : Tree → ℕ → ℕ → Acted
port_down t now p = follows t now (record t { ports = without nat_cmp t.ports p })

-- the cost of a port's path, the priority of a port, or that of the bridge is set (8.8.6, 8.8.5, 8.8.4)
abbrev pub cost_set : Tree → ℕ → ℕ → ℕ → Acted
cost_set t now p n = follows t now (record t { ports = at_port p (λ x. record x { cost = n }) t.ports })

abbrev pub port_priority_set : Tree → ℕ → ℕ → ℕ → Acted
port_priority_set t now p n = follows t now (record t { ports = at_port p (λ x. record x { priority = n }) t.ports })

abbrev pub priority_set : Tree → ℕ → ℕ → Acted
priority_set t now n = follows t now (record t { priority = n })

-- Received messages

-- the message is kept at the port (8.6.2)
abbrev pub with_kept : Tree → ℕ → ℕ → ConfigMsg → Tree
with_kept t now p m = record t { ports = at_port p (λ x. record x { kept = Some (record { message = m; moment = now }) }) t.ports }

-- bit 7 ends the notification (8.6.15)
abbrev pub acknowledged : ℕ → Acted → Acted
acknowledged flags a = if flags / 128 % 2 == 1 then record a { tree = record a.tree { notified = None } } else a

-- after a message was kept: the root port passes on what it has, and takes an acknowledgement
abbrev pub passed_on : ℕ → ℕ → ConfigMsg → Acted → Acted
passed_on now p m a = if is_root_port a.tree p then acknowledged m.flags (generate now a) else a

-- A configuration message (8.7.1). One that is as old as it may get has no effect; one that isn't kept is answered by a
-- designated port.
abbrev pub config_received : Tree → ℕ → ℕ × TreePort → ConfigMsg → Acted
config_received t now e m =
    if nat_le m.max m.age then quiet t else
    if keeps t e m then passed_on now e.0 m (settled true t now (with_kept t now e.0 m)) else
    if is_designated t e then transmit (e.0 ∷ []) now (quiet t) else
    quiet t

-- the next message on the port is to acknowledge a topology change (8.6.16)
abbrev pub with_owed : ℕ → Acted → Acted
with_owed p a = record a { tree = record a.tree { ports = at_port p (λ x. record x { owed = true }) a.tree.ports } }

-- A TCN (8.7.2): on a designated port it is a topology change, and is acknowledged there.
abbrev pub tcn_received : Tree → ℕ → ℕ × TreePort → Acted
tcn_received t now e = if is_designated t e then transmit (e.0 ∷ []) now (with_owed e.0 (detected now (quiet t))) else quiet t

abbrev pub received_at : Tree → ℕ → ℕ × TreePort → BpduMsg → Acted
received_at t now e (Config flags root cost bridge port age max hello delay) =
    config_received t now e (record { flags = flags; root = root; cost = cost; bridge = bridge; port = port; age = age; max = max; hello = hello; delay = delay })
received_at t now e Tcn = tcn_received t now e

-- a message at a port that is up, in any state
abbrev pub received : Tree → ℕ → ℕ → BpduMsg → Acted
received t now p m = option_map_or (λ x. received_at t now (p, x) m) (port_at t p) (quiet t)

-- Moments

-- due states move one step; a port that becomes forwarding is a topology change where some port is designated
abbrev pub states_due : ℕ → Acted → Acted
states_due now a = detected_if (is_opened_by_time now a.tree) now (record a { tree = states_move now a.tree })

abbrev pub change_due : ℕ → Acted → Acted
change_due now a = record a { tree = change_ends now a.tree }

-- a notification that isn't acknowledged goes out again
abbrev pub tcn_due : ℕ → Acted → Acted
tcn_due now a = if is_tcn_due now a.tree then notify now (root_of a.tree).port a else a

-- the root sends its hello
abbrev pub hello_due : ℕ → Acted → Acted
hello_due now a =
    if is_root a.tree && is_hello_due now a.tree then generate now (record a { tree = record a.tree { hello = now } }) else a

-- Old messages are forgotten, roles and states follow; states that are due move; then the topology change ends, the
-- notification, the hello and what was put off go out, each where it is due.
abbrev pub moment : Tree → ℕ → Acted
moment t now =
    if t.on
    then sends_put_off now (hello_due now (tcn_due now (change_due now (states_due now (settled false t now (forgets now t))))))
    else quiet t

-- All events

-- the tree after the event at the moment, and what goes out
unfoldable pub tree_step : Tree → ℕ → TreeEvent → Acted
tree_step t now (Switch on) = switched t now on
tree_step t now (Up p) = port_up t now p
tree_step t now (Down p) = port_down t now p
tree_step t now (Message p m) = received t now p m
tree_step t now Moment = moment t now
tree_step t now (Cost p n) = cost_set t now p n
tree_step t now (PortPriority p n) = port_priority_set t now p n
tree_step t now (Priority n) = priority_set t now n

-- the ports, up after the event, whose state it changed
abbrev pub moved : Tree → Tree → List ℕ
moved before after = filter (λ p. not (state_at before p == state_at after p)) (numbers after.ports)

-- the last configuration message that went out on the port
abbrev pub message : Tree → ℕ → Option BpduMsg
message t p = option_map (λ s. bpdu_of s.message) (option_and_then (λ x. x.last) (port_at t p))

-- what went out in the event, ports ascending, a TCN last
abbrev pub sent : Acted → List (ℕ × BpduMsg)
sent a = filter_map (λ p. option_map (λ m. (p, m)) (message a.tree p)) a.config ++ map (λ p. (p, Tcn)) (option_to_list a.tcn)
