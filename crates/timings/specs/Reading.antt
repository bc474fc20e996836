-- The frames that the bridge reads where they came by a port of a chip: messages of snooping and of the spanning tree.
-- Source: the kernel's switchdev.rst (traps); that all else teaches by the chip's report alone is this profile's.
use Rattle.std.specs.Prelude.{ℕ, Bool, false, ◌&&◌, ◌||◌}
use Rattle.std.specs.declared.option.Option.{Option}
use Rattle.std.specs.declared.option.Option.TheVariants.{None, Some}
use Rattle.br_model.specs.declared.frame.Head.{Head}
use Rattle.br_model.specs.declared.frame.McastMsg.{McastMsg}
use Rattle.br_model.specs.Forward.Admission.{admit}
use Rattle.br_model.specs.Forward.Class.{is_snooped}
use Rattle.br_model.specs.Forward.Targets.{to_tree}
use Rattle.br_model.specs.Table.Table.{Table}

-- whether snooping reads the message in this VLAN
abbrev pub is_read_in : Table → Option ℕ → McastMsg → Bool
is_read_in t None msg = false
is_read_in t (Some vid) msg = t.snoop && is_snooped msg

-- whether snooping or the spanning tree reads the frame
abbrev pub is_read : Table → ℕ → Head → McastMsg → Bool
is_read t port head msg = to_tree t port head || is_read_in t (admit t port head) msg
