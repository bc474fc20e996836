-- What follows on a change, by what the code remembers of the tree before it: whether the bridge was the root, and whether
-- its own topology change was on.
use Rattle.std.specs.Prelude.{ℕ, ◌≡◌, Bool, false, not, List, get_or, ◌&&◌, ◌||◌, if◌then◌else◌}
use Rattle.std.specs.declared.option.Option.TheVariants.{None, Some}
use Rattle.std.specs.declared.option.Option.{Option}
use Rattle.std.specs.Option.{option_map_or}
use Rattle.std.specs.Ordering.{nat_cmp}
use Rattle.br_model.specs.Data.Maps.{get}
use Rattle.br_model.specs.Table.Table.{disabled}
use Rattle.br_model.specs.declared.tree.TreeEvent.{TreeEvent}
use Rattle.br_model.specs.declared.tree.TreeEvent.TheVariants.{PortPriority, Priority}
use Rattle.br_model.specs.declared.tree.TreePort.{TreePort}
use Rattle.br_model.specs.Tree.Tree.{Tree, state_at, at_port}
use Rattle.br_model.specs.Tree.Vectors.{is_root, roles}
use Rattle.br_model.specs.Tree.States.{states_follow, is_blocked_by_roles}
use Rattle.br_model.specs.Tree.Sending.{Acted, quiet, generate, detected_if}
use Rattle.br_model.specs.Tree.Step.{moved}
use Rattle.stp_core.specs.declared.steps.Before.{Before}
use Rattle.stp_core.specs.declared.tree.TreeOut.{TreeOut}

abbrev pub hands_over_by : Before → ℕ → Tree → Tree
hands_over_by b now t =
    if not b.is_root && is_root t then record t { notified = None; hello = now } else
    if b.is_root && not (is_root t) then record t { change_end = None } else
    t

abbrev pub detects_by : Bool → Before → Tree → Bool
detects_by kept b t =
    is_blocked_by_roles t || ((not b.is_root && is_root t) || (kept && ((b.is_root && not (is_root t)) && b.is_changing)))

abbrev pub greets_by : Before → ℕ → Acted → Acted
greets_by b now a = if not b.is_root && is_root a.tree then generate now a else a

abbrev pub roles_taken_by : Bool → Before → ℕ → Tree → Acted
roles_taken_by kept b now t = greets_by b now (detected_if (detects_by kept b t) now (quiet (hands_over_by b now (states_follow now t))))

abbrev pub settled_by : Bool → Before → ℕ → Tree → Acted
settled_by kept b now t = roles_taken_by kept b now (roles t)

-- while the tree is off nothing follows
abbrev pub follows_by : Before → ℕ → Tree → Acted
follows_by b now t = if t.on then settled_by false b now t else quiet t

-- with this priority, of the port or with none of the bridge
abbrev pub ranked : Tree → Option ℕ → ℕ → Tree
ranked t None n = record t { priority = n }
ranked t (Some p) n = record t { ports = at_port p (λ x. record x { priority = n }) t.ports }

-- that event
abbrev pub ranking : Option ℕ → ℕ → TreeEvent
ranking None n = Priority n
ranking (Some p) n = PortPriority p n

-- the state of a port among these
abbrev pub state_in : List (ℕ × TreePort) → ℕ → ℕ
state_in ports p = option_map_or (λ x. x.state) (get nat_cmp ports p) disabled

-- the states of the tree's ports, by their numbers
abbrev pub AreStates : List ℕ → Tree → Type 0
AreStates states t = (p : ℕ) → get_or states p disabled ≡ state_at t p

-- what an event answers
abbrev pub out_of : Tree → Acted → TreeOut
out_of before a = record { moved = moved before a.tree; config = a.config; tcn = a.tcn }
