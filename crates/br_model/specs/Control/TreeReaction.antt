-- How the spanning tree takes part in a reaction: states follow it, and its messages go out.
-- Source: the kernel's br_stp_rcv (a port's BPDUs go to the tree) and br_set_state (a port's state is told to the switch in the
-- event that changes it).
use Rattle.std.specs.Prelude.{ℕ, if◌then◌else◌, List, ◌++◌, map}
use Rattle.std.specs.declared.option.Option.{Option}
use Rattle.std.specs.declared.option.Option.TheVariants.{None, Some}
use Rattle.std.specs.Option.{option_map}
use Rattle.br_model.specs.declared.change.Change.{Change}
use Rattle.br_model.specs.declared.change.Change.TheVariants.{SetState}
use Rattle.br_model.specs.declared.frame.Head.{Head}
use Rattle.br_model.specs.declared.tree.TreeEvent.{TreeEvent}
use Rattle.br_model.specs.declared.tree.TreeEvent.TheVariants.{Message}
use Rattle.br_model.specs.Wire.Bpdus.{bpdu}
use Rattle.br_model.specs.Control.Course.{Course, makes_all}
use Rattle.br_model.specs.Table.Table.{Table}
use Rattle.br_model.specs.Forward.Targets.{to_tree}
use Rattle.br_model.specs.Tree.Tree.{Tree, state_at}
use Rattle.br_model.specs.Tree.Sending.{Acted}
use Rattle.br_model.specs.Tree.Step.{tree_step, moved, sent}

-- the state of each port that has another one than before, ascending
abbrev pub states : Tree → Tree → List Change
states before after = map (λ port. SetState port (state_at after port)) (moved before after)

abbrev pub follows : Course → Acted → Course
follows r a = makes_all (record r { control = record r.control { tree = a.tree }; messages = r.messages ++ sent a }) (states r.control.tree a.tree)

-- the spanning tree is told the event, if any
abbrev pub tells_tree : Option TreeEvent → Course → Course
tells_tree None r = r
tells_tree (Some event) r = follows r (tree_step r.control.tree r.control.now event)

-- the message that the frame has for the spanning tree
abbrev pub heard : Table → ℕ → List ℕ → Head → Option TreeEvent
heard t port bytes head = if to_tree t port head then option_map (λ m. Message port m) (bpdu bytes) else None
