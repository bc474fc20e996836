-- The spanning tree's parameters: what a bridge keeps of itself, and of each port that is up.
-- Source: IEEE 802.1D-1998 section 8.5 (parameters and timers), 9.2 and 9.3 (identifiers, messages) and section 8.10 (first
-- values); a port's first path cost is this profile's.
use Rattle.std.specs.Prelude.{ℕ, ◌+◌, ◌*◌, ◌^◌, ◌==◌, Bool, false, if◌then◌else◌, List, [], map}
use Rattle.std.specs.declared.option.Option.{Option}
use Rattle.std.specs.declared.option.Option.TheVariants.{None}
use Rattle.std.specs.Option.{option_and_then, option_map_or}
use Rattle.std.specs.Ordering.{nat_cmp}
use Rattle.br_model.specs.declared.bpdu.BpduMsg.{BpduMsg}
use Rattle.br_model.specs.declared.bpdu.BpduMsg.TheVariants.{Config}
use Rattle.br_model.specs.declared.tree.ConfigMsg.{ConfigMsg}
use Rattle.br_model.specs.declared.tree.Stamped.{Stamped}
use Rattle.br_model.specs.declared.tree.TreePort.{TreePort}
use Rattle.br_model.specs.Data.Maps.{get}
use Rattle.br_model.specs.Table.Table.{disabled}

abbrev pub bpdu_of : ConfigMsg → BpduMsg
bpdu_of m = Config m.flags m.root m.cost m.bridge m.port m.age m.max m.hello m.delay

-- What is kept of the bridge (8.5.3, 8.5.4). The root, the root port, the cost of its path and the designated ports
-- follow from what the ports have kept.
pub record Tree : Type 0 where
  -- the bridge's address and priority
  pub own : ℕ
  pub priority : ℕ
  -- whether the spanning tree is on
  pub on : Bool
  -- at each port that is up, in ascending order
  pub ports : List (ℕ × TreePort)
  -- while a topology change is on and this bridge is the root: its end (Topology Change timer)
  pub change_end : Option ℕ
  -- while a topology change isn't acknowledged and this bridge isn't the root: when the last TCN went out (Topology Change
  -- Detected; Topology Change Notification timer)
  pub notified : Option ℕ
  -- the moment from which the next hello is counted (Hello timer)
  pub hello : ℕ

abbrev pub first_priority : ℕ
first_priority = 32768

abbrev pub first_port_priority : ℕ
first_port_priority = 128

abbrev pub first_cost : ℕ
first_cost = 100

-- A port as it comes up: nothing kept, nothing sent, nothing owed.
abbrev pub fresh : ℕ → ℕ → TreePort
fresh state now = record {
  cost = first_cost;
  priority = first_port_priority;
  state = state;
  since = now;
  kept = None;
  last = None;
  put_off = false;
  owed = false;
}

-- The bridge of this address: no port is up, the spanning tree is off.
abbrev pub first_tree : ℕ → Tree
first_tree own = record {
  own = own;
  priority = first_priority;
  on = false;
  ports = [];
  change_end = None;
  notified = None;
  hello = 0;
}

-- identifiers (9.2.5, 9.2.7): the priority, and then the address or the port's number

abbrev pub bridge_id : Tree → ℕ
bridge_id t = 2 ^ 48 * t.priority + t.own

abbrev pub port_id : ℕ × TreePort → ℕ
port_id e = 256 * e.1.priority + e.0

-- ports

abbrev pub numbers : List (ℕ × TreePort) → List ℕ
numbers ports = map (λ e. e.0) ports

abbrev pub port_at : Tree → ℕ → Option TreePort
port_at t p = get nat_cmp t.ports p

-- a port that isn't up is disabled
abbrev pub state_at : Tree → ℕ → ℕ
state_at t p = option_map_or (λ x. x.state) (port_at t p) disabled

abbrev pub kept_at : Tree → ℕ → Option Stamped
kept_at t p = option_and_then (λ x. x.kept) (port_at t p)

-- f at each port that is up
abbrev pub each : (ℕ × TreePort → TreePort) → List (ℕ × TreePort) → List (ℕ × TreePort)
each f ports = map (λ e. (e.0, f e)) ports

-- f at the one port
abbrev pub at_port : ℕ → (TreePort → TreePort) → List (ℕ × TreePort) → List (ℕ × TreePort)
at_port p f ports = each (λ e. if e.0 == p then f e.1 else e.1) ports
