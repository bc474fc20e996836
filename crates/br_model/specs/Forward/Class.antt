-- What a chip does with a frame that enters on one of its ports.
-- Source: the kernel's switchdev.rst (frames that a chip forwards and also hands to the processor, offload_fwd_mark; IGMP joins
-- and leaves are trapped). That every message of snooping is trapped, and the order of the cases, is this profile's.
use Rattle.std.specs.Prelude.{ℕ, ◌==◌, Bool, true, false, not, ◌&&◌, ◌||◌, if◌then◌else◌, List, length}
use Rattle.std.specs.List.{list_any}
use Rattle.std.specs.declared.option.Option.{Option}
use Rattle.std.specs.declared.option.Option.TheVariants.{None, Some}
use Rattle.std.specs.Option.{option_map_or}
use Rattle.br_model.specs.declared.frame.Class.{Class}
use Rattle.br_model.specs.declared.frame.Class.TheVariants.{Drop, Trap, Copy, Forward}
use Rattle.br_model.specs.declared.frame.Head.{Head}
use Rattle.br_model.specs.declared.frame.McastMsg.{McastMsg}
use Rattle.br_model.specs.declared.frame.McastMsg.TheVariants.{Plain, Payload, Query, Report, Leave, Records, Unrecognized}
use Rattle.br_model.specs.Forward.Admission.{admit}
use Rattle.br_model.specs.Table.Domains.{Domains, host, foreign}
use Rattle.br_model.specs.Forward.Eligible.{may}
use Rattle.br_model.specs.Forward.Leave.{ports_out}
use Rattle.br_model.specs.Data.Maps.{pair_cmp, get}
use Rattle.br_model.specs.Data.Numbers.{is_multicast}
use Rattle.br_model.specs.Table.Table.{Table}
use Rattle.br_model.specs.Forward.Targets.{is_for_the_host, port_of, to_tree}

-- whether snooping wants to see the message
abbrev pub is_snooped : McastMsg → Bool
is_snooped Plain = false
is_snooped (Payload group) = false
is_snooped (Query six counted) = true
is_snooped (Report group) = true
is_snooped (Leave group) = true
is_snooped (Records six first count) = true
is_snooped Unrecognized = true

-- whether the frame is for the host by its reserved destination, and the host may take it
abbrev pub reaches_host : Table → ℕ → ℕ → Head → Bool
reaches_host t port vid head = is_for_the_host head.dst && may t port host vid

-- whether the frame is for the station behind a port of another domain, and that port may take it
abbrev pub crosses : Domains → Table → ℕ → ℕ → Head → Bool
crosses domains t port vid head =
    not (is_multicast head.dst)
    && option_map_or (λ e. foreign domains port (port_of e) && may t port (port_of e) vid) (get pair_cmp t.addr (vid, head.dst)) false

-- whether a frame that the port admits in this VLAN, where it admits it, goes to the processor alone
abbrev pub is_trapped_in : Domains → Table → ℕ → Option ℕ → Head → McastMsg → Bool
is_trapped_in domains t port None head msg = false
is_trapped_in domains t port (Some vid) head msg =
    (t.snoop && is_snooped msg) || (reaches_host t port vid head || crosses domains t port vid head)

abbrev pub is_trapped : Domains → Table → ℕ → Head → McastMsg → Bool
is_trapped domains t port head msg = to_tree t port head || is_trapped_in domains t port (admit t port head) head msg

-- the class of a frame that leaves one bridge by these ports, and isn't trapped
abbrev pub class_by : Domains → ℕ → List ℕ → Class
class_by domains port out =
    if length out == 0 then Drop else
    if list_any (λ q. foreign domains port q) out then Copy else
    Forward

-- the first of the four that holds
abbrev pub class : Domains → Table → ℕ → Head → McastMsg → Class
class domains t port head msg =
    if is_trapped domains t port head msg then Trap else class_by domains port (ports_out t port head msg)
