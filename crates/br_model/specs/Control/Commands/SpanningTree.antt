-- `stp`, `link NAME cost`, `link NAME priority`.
-- Source: the kernel's br_stp_set_enabled, br_stp_set_path_cost, br_stp_set_port_priority, br_stp_set_bridge_priority; IEEE
-- 802.1D-1998 section 8.8 (management).
use Rattle.std.specs.Prelude.{ℕ, Bool, not, if◌then◌else◌, List, [], ◌∷◌}
use Rattle.std.specs.declared.result.Result.{Result}
use Rattle.std.specs.declared.result.Result.TheVariants.{Ok, Err}
use Rattle.br_model.specs.declared.change.Change.{Change}
use Rattle.br_model.specs.declared.change.Change.TheVariants as changes
use Rattle.br_model.specs.declared.steps.Refusal.{Refusal}
use Rattle.br_model.specs.declared.steps.Refusal.TheVariants.{PortNotUp}
use Rattle.br_model.specs.Control.Commands.Ports.{is_down}
use Rattle.br_model.specs.Table.Table.{Table}

-- whether the spanning tree is on, or off, already
abbrev pub is_switched : Table → Bool → Bool
is_switched t on = if on then t.stp else not t.stp

-- none where it is so already
abbrev pub stp : Table → Bool → Result (List Change) Refusal
stp t on = Ok (if is_switched t on then [] else changes.Stp on ∷ [])

-- the cost or the priority of a port: no part of the table
abbrev pub rank : Table → ℕ → Result (List Change) Refusal
rank t port = if is_down t port then Err PortNotUp else Ok []
