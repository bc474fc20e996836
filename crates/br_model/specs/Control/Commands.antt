-- What a command is answered: its first refusal that holds, or its changes in order, before those of the spanning tree, which
-- follow where a command tells it something. That the history is full is the last refusal of every
-- event, and stands with the reaction.
-- Source: the kernel's net/bridge and iproute2's `bridge` command; the order of refusals is this profile's.
use Rattle.std.specs.Prelude.{if◌then◌else◌, List, []}
use Rattle.std.specs.declared.option.Option.{Option}
use Rattle.std.specs.declared.option.Option.TheVariants.{None, Some}
use Rattle.std.specs.declared.result.Result.{Result}
use Rattle.std.specs.declared.result.Result.TheVariants.{Ok}
use Rattle.br_model.specs.declared.change.Change.{Change}
use Rattle.br_model.specs.declared.steps.Command.{Command}
use Rattle.br_model.specs.declared.steps.Command.TheVariants.{PortUp, PortDown, Link, Cost, PortPriority, VlanAdd, VlanDel, FdbAdd, FdbDel, MdbAdd, MdbDel, Stp, Priority, Ageing, Snooping}
use Rattle.br_model.specs.declared.steps.Refusal.{Refusal}
use Rattle.br_model.specs.declared.tree.TreeEvent.{TreeEvent}
use Rattle.br_model.specs.declared.tree.TreeEvent.TheVariants as events
use Rattle.br_model.specs.Control.Commands.Addresses.{fdb_add, fdb_del}
use Rattle.br_model.specs.Control.Commands.Groups.{mdb_add, mdb_del, snooping}
use Rattle.br_model.specs.Control.Commands.Ports.{port_up, port_down, link}
use Rattle.br_model.specs.Control.Commands.SpanningTree.{is_switched, stp, rank}
use Rattle.br_model.specs.Control.Commands.Vlans.{vlan_add, vlan_del}
use Rattle.br_model.specs.Control.Control.{Control, milliseconds}
use Rattle.br_model.specs.Table.Table.{Table}
pub mod Ports
pub mod Vlans
pub mod Addresses
pub mod Groups
pub mod SpanningTree

abbrev pub command : Table → Command → Result (List Change) Refusal
command t (PortUp port) = port_up t port
command t (PortDown port) = port_down t port
command t (Link port flag on) = link t port flag on
command t (Cost port n) = rank t port
command t (PortPriority port n) = rank t port
command t (VlanAdd port vid untagged pvid) = vlan_add t port vid untagged pvid
command t (VlanDel port vid) = vlan_del t port vid
command t (FdbAdd vid mac port kind) = fdb_add t vid mac port kind
command t (FdbDel vid mac) = fdb_del t vid mac
command t (MdbAdd port vid group) = mdb_add t port vid group
command t (MdbDel port vid group) = mdb_del t port vid group
command t (Stp on) = stp t on
command t (Priority n) = Ok []
command t (Ageing seconds) = Ok []
command t (Snooping on) = snooping t on

-- what a command sets in the control state
abbrev pub sets : Control → Command → Control
sets c (PortUp port) = c
sets c (PortDown port) = c
sets c (Link port flag on) = c
sets c (Cost port n) = c
sets c (PortPriority port n) = c
sets c (VlanAdd port vid untagged pvid) = c
sets c (VlanDel port vid) = c
sets c (FdbAdd vid mac port kind) = c
sets c (FdbDel vid mac) = c
sets c (MdbAdd port vid group) = c
sets c (MdbDel port vid group) = c
sets c (Stp on) = c
sets c (Priority n) = c
sets c (Ageing seconds) = record c { ageing = milliseconds seconds }
sets c (Snooping on) = c

-- what the command tells the spanning tree, by the table before it
abbrev pub tells : Table → Command → Option TreeEvent
tells t (PortUp port) = Some (events.Up port)
tells t (PortDown port) = Some (events.Down port)
tells t (Link port flag on) = None
tells t (Cost port n) = Some (events.Cost port n)
tells t (PortPriority port n) = Some (events.PortPriority port n)
tells t (VlanAdd port vid untagged pvid) = None
tells t (VlanDel port vid) = None
tells t (FdbAdd vid mac port kind) = None
tells t (FdbDel vid mac) = None
tells t (MdbAdd port vid group) = None
tells t (MdbDel port vid group) = None
tells t (Stp on) = if is_switched t on then None else Some (events.Switch on)
tells t (Priority n) = Some (events.Priority n)
tells t (Ageing seconds) = None
tells t (Snooping on) = None
