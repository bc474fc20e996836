-- What is due at a moment: at a port, and of the bridge's timers.
use Rattle.std.specs.Prelude.{ℕ, ◌+◌, ◌-◌, ◌^◌, ◌<◌, ◌≡◌, ◌==◌, nat_le, Bool, true, false, not, ◌&&◌, ◌||◌, if◌then◌else◌}
use Rattle.std.specs.Option.{is_some, option_map_or}
use Rattle.std.specs.List.{list_any}
use Rattle.br_model.specs.declared.tree.TreePort.{TreePort}
use Rattle.br_model.specs.Tree.Tree.{Tree, bridge_id}
use Rattle.br_model.specs.Tree.Vectors.{root_of, is_root, is_port_of, is_designated_by}
use Rattle.br_model.specs.Tree.Timers.{forward_delay, is_aged_out, is_tcn_due, is_hello_due}
use Rattle.br_model.specs.Tree.States.{listening, learning, blocking}
use Rattle.br_model.specs.Tree.Sending.{is_put_off}
use Rattle.stp_core.specs.declared.vectors.Election.{Election}

-- the first moment that passes; the last of all moments where none before it passes
abbrev pub IsFirst : ℕ → (ℕ → Bool) → Type 0
IsFirst first test = record { before : (now : ℕ) → now < first → test now ≡ false; reached : first < 2 ^ 64 - 1 → test first ≡ true }

-- At a port

-- whether the message that is kept has aged out
abbrev pub is_age_over : ℕ → TreePort → Bool
is_age_over now x = option_map_or (is_aged_out now) x.kept false

-- whether a listening or learning port has been so for the delay
abbrev pub is_delay_over : ℕ → ℕ → TreePort → Bool
is_delay_over delay now x = (x.state == listening || x.state == learning) && nat_le (x.since + delay) now

-- whether a designated port still keeps a message
abbrev pub keeps_beside_role : Election → ℕ × TreePort → Bool
keeps_beside_role el e = is_designated_by el.id el.root e && is_some e.1.kept

-- whether the port blocks with a role, or doesn't without one
abbrev pub stands_beside_role : Election → ℕ × TreePort → Bool
stands_beside_role el e =
    if is_port_of el.root e.0 || is_designated_by el.id el.root e then e.1.state == blocking else not (e.1.state == blocking)

abbrev pub is_unsettled : Election → ℕ × TreePort → Bool
is_unsettled el e = keeps_beside_role el e || stands_beside_role el e

-- whether something happens at the port: by its role, by its message's age, by the forward delay, or by the hold
abbrev pub is_due_at : Election → ℕ → ℕ → ℕ × TreePort → Bool
is_due_at el delay now e = is_unsettled el e || ((is_age_over now e.1 || is_delay_over delay now e.1) || is_put_off now e.1)

-- Of the bridge

abbrev pub is_change_over : ℕ → Tree → Bool
is_change_over now t = option_map_or (λ m. nat_le m now) t.change_end false

abbrev pub says_hello : ℕ → Tree → Bool
says_hello now t = is_root t && is_hello_due now t

-- whether the topology change ends, a notification goes out again, or a hello goes out
abbrev pub is_timer_due : ℕ → Tree → Bool
is_timer_due now t = (is_change_over now t || is_tcn_due now t) || says_hello now t

abbrev pub election_of : Tree → Election
election_of t = record { id = bridge_id t; root = root_of t }

-- whether something of the tree is due
unfoldable pub is_any_due : Tree → ℕ → Bool
is_any_due t now = t.on && (is_timer_due now t || list_any (is_due_at (election_of t) (forward_delay t) now) t.ports)
