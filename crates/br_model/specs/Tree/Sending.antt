-- What the bridge sends: configuration messages, put off where they come too soon, and notifications of topology changes.
-- Source: IEEE 802.1D-1998 sections 8.6.1 (transmit configuration BPDU), 8.6.4 and 8.6.5 (generation, reply), 8.6.6 (transmit
-- topology change notification BPDU) and 8.6.14 (topology change detection). The age of a message is this profile's.
use Rattle.std.specs.Prelude.{ℕ, ◌+◌, ◌-◌, nat_lt, Bool, true, false, not, ◌&&◌, if◌then◌else◌, List, []}
use Rattle.std.specs.List.{filter, fold}
use Rattle.std.specs.declared.option.Option.{Option}
use Rattle.std.specs.declared.option.Option.TheVariants.{None, Some}
use Rattle.std.specs.Ordering.{nat_cmp}
use Rattle.br_model.specs.Data.Maps.{has, joined}
use Rattle.br_model.specs.declared.tree.ConfigMsg.{ConfigMsg}
use Rattle.br_model.specs.declared.tree.Stamped.{Stamped}
use Rattle.br_model.specs.declared.tree.TreePort.{TreePort}
use Rattle.br_model.specs.Tree.Tree.{Tree, bridge_id, port_id, numbers, each}
use Rattle.br_model.specs.Tree.Vectors.{root_of, root_kept, designated_ports, is_designated}
use Rattle.br_model.specs.Tree.Timers.{ticks, times, is_changing, is_held, change_time}

-- The tree, and what went out in this event so far: on which ports a configuration message (the last one of the port),
-- and on which a TCN.
pub record Acted : Type 0 where
  pub tree : Tree
  pub config : List ℕ
  pub tcn : Option ℕ

abbrev pub quiet : Tree → Acted
quiet t = record { tree = t; config = []; tcn = None }

-- Configuration messages

-- 0 at the root, elsewhere the kept age, the time since and one second
abbrev pub age_at : ℕ → Option Stamped → ℕ
age_at now None = 0
age_at now (Some k) = k.message.age + ticks (now - k.moment + 1000)

-- bit 0 where a topology change is on, bit 7 where one is acknowledged
abbrev pub flags_of : Bool → Bool → ℕ
flags_of changing owed = (if changing then 1 else 0) + (if owed then 128 else 0)

-- the message of the port at this moment
abbrev pub message_at : Tree → ℕ → ℕ × TreePort → ConfigMsg
message_at t now e = record {
  flags = flags_of (is_changing t) e.1.owed;
  root = (root_of t).id;
  cost = (root_of t).cost;
  bridge = bridge_id t;
  port = port_id e;
  age = age_at now (root_kept t);
  max = (times t).max;
  hello = (times t).hello;
  delay = (times t).delay;
}

-- A message goes out where the port isn't held and the message isn't too old.
abbrev pub goes_out : Tree → ℕ → ℕ × TreePort → Bool
goes_out t now e = not (is_held now e.1) && nat_lt (message_at t now e).age (message_at t now e).max

-- The port after it was to send: what can't go out yet is put off; what went out acknowledges once.
abbrev pub transmitted : Tree → ℕ → ℕ × TreePort → TreePort
transmitted t now e =
    if is_held now e.1 then record e.1 { put_off = true } else
    if goes_out t now e then record e.1 { last = Some (record { message = message_at t now e; moment = now }); put_off = false; owed = false } else
    record e.1 { put_off = false }

abbrev pub union : List ℕ → List ℕ → List ℕ
union s ps = fold (joined nat_cmp) s ps

-- each of these ports is to send its message
unfoldable pub transmit : List ℕ → ℕ → Acted → Acted
transmit ps now a = record a {
  tree = record a.tree { ports = each (λ e. if has nat_cmp ps e.0 then transmitted a.tree now e else e.1) a.tree.ports };
  config = union a.config (numbers (filter (λ e. has nat_cmp ps e.0 && goes_out a.tree now e) a.tree.ports));
}

-- each designated port is to send its message (8.6.4)
abbrev pub generate : ℕ → Acted → Acted
generate now a = transmit (designated_ports a.tree) now a

-- Messages that were put off, once the hold is over: a port that isn't designated then drops its message and what it owes, the
-- others send theirs.
abbrev pub is_put_off : ℕ → TreePort → Bool
is_put_off now x = x.put_off && not (is_held now x)

unfoldable pub drops_put_off : ℕ → Tree → Tree
drops_put_off now t = record t {
  ports = each (λ e. if is_put_off now e.1 && not (is_designated t e) then record e.1 { put_off = false; owed = false } else e.1) t.ports;
}

abbrev pub transmits_put_off : ℕ → Acted → Acted
transmits_put_off now a = transmit (numbers (filter (λ e. is_put_off now e.1) a.tree.ports)) now a

abbrev pub sends_put_off : ℕ → Acted → Acted
sends_put_off now a = transmits_put_off now (record a { tree = drops_put_off now a.tree })

-- Topology changes

-- a TCN goes out on the root port (8.6.6)
abbrev pub notify : ℕ → Option ℕ → Acted → Acted
notify now None a = a
notify now (Some p) a = record a { tree = record a.tree { notified = Some now }; tcn = Some p }

-- A topology change is detected (8.6.14): the root begins one, any other bridge tells its root.
abbrev pub detected_at : ℕ → Option ℕ → Acted → Acted
detected_at now None a = record a { tree = record a.tree { change_end = Some (now + change_time) } }
detected_at now (Some p) a = notify now (Some p) a

abbrev pub detected : ℕ → Acted → Acted
detected now a = detected_at now (root_of a.tree).port a

abbrev pub detected_if : Bool → ℕ → Acted → Acted
detected_if found now a = if found then detected now a else a
