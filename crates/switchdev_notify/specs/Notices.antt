-- What is told of a change, and the change that a notice tells.
-- Source: the kernel's include/net/switchdev.h, Documentation/networking/switchdev.rst. That ports going up and down, queriers
-- and the spanning tree are told by notices is this profile's.
use Rattle.std.specs.Prelude.{◌≡◌, false, if◌then◌else◌}
use Rattle.std.specs.declared.option.Option.{Option}
use Rattle.std.specs.declared.option.Option.TheVariants.{None, Some}
use Rattle.br_model.specs.declared.change.Change.{Change}
use Rattle.br_model.specs.declared.change.Change.TheVariants as changes
use Rattle.br_model.specs.declared.domains.Edition.{Edition}
use Rattle.br_model.specs.Table.Change.{deferred}
use Rattle.br_model.specs.Table.Table.{Table, apply}
use Rattle.switchdev_notify.specs.declared.notice.Object.{Object}
use Rattle.switchdev_notify.specs.declared.notice.Object.TheVariants.{Vlan, Group}
use Rattle.switchdev_notify.specs.declared.notice.Attribute.{Attribute}
use Rattle.switchdev_notify.specs.declared.notice.Attribute.TheVariants.{PortUp, PortDown, Flags, State, Router, Querier, Snoop, Stp}
use Rattle.switchdev_notify.specs.declared.notice.Notice.{Notice}
use Rattle.switchdev_notify.specs.declared.notice.Notice.TheVariants.{ObjAdd, ObjDel, Attr, Address}

-- what is told of a change
abbrev pub notice : Change → Notice
notice (changes.PortUp port) = Attr (PortUp port)
notice (changes.PortDown port) = Attr (PortDown port)
notice (changes.SetFlags port flags) = Attr (Flags port flags)
notice (changes.SetState port state) = Attr (State port state)
notice (changes.VlanAdd port vid untagged pvid) = ObjAdd (Vlan port vid untagged pvid)
notice (changes.VlanDel port vid) = ObjDel (Vlan port vid false false)
notice (changes.GroupJoin port vid group) = ObjAdd (Group port vid group)
notice (changes.GroupPart port vid group) = ObjDel (Group port vid group)
notice (changes.Router port on) = Attr (Router port on)
notice (changes.Querier six on) = Attr (Querier six on)
notice (changes.Snoop on) = Attr (Snoop on)
notice (changes.Stp on) = Attr (Stp on)
notice (changes.AddrPut vid mac port kind) = Address
notice (changes.AddrDel vid mac) = Address

abbrev pub change_added : Object → Change
change_added (Vlan port vid untagged pvid) = changes.VlanAdd port vid untagged pvid
change_added (Group port vid group) = changes.GroupJoin port vid group

abbrev pub change_removed : Object → Change
change_removed (Vlan port vid untagged pvid) = changes.VlanDel port vid
change_removed (Group port vid group) = changes.GroupPart port vid group

abbrev pub change_of_attribute : Attribute → Change
change_of_attribute (PortUp port) = changes.PortUp port
change_of_attribute (PortDown port) = changes.PortDown port
change_of_attribute (Flags port flags) = changes.SetFlags port flags
change_of_attribute (State port state) = changes.SetState port state
change_of_attribute (Router port on) = changes.Router port on
change_of_attribute (Querier six on) = changes.Querier six on
change_of_attribute (Snoop on) = changes.Snoop on
change_of_attribute (Stp on) = changes.Stp on

-- the change that a notice tells
abbrev pub change_of : Notice → Option Change
change_of (ObjAdd object) = Some (change_added object)
change_of (ObjDel object) = Some (change_removed object)
change_of (Attr attribute) = Some (change_of_attribute attribute)
change_of Address = None

-- the change that a driver is told in an edition: one that is deferred in it is left to the queue
abbrev pub unless_deferred : Edition → Option Change → Option Change
unless_deferred edition None = None
unless_deferred edition (Some c) = if deferred edition c then None else Some c

abbrev pub told_in : Edition → Notice → Option Change
told_in edition n = unless_deferred edition (change_of n)

-- the table after the change that was told
abbrev pub after_told : Table → Option Change → Table
after_told t None = t
after_told t (Some c) = apply t c

abbrev pub after : Edition → Table → Notice → Table
after edition t n = after_told t (told_in edition n)

-- The change that is told, if one is, is one that the driver takes.
abbrev pub Takes : (Change → Type 0) → Edition → Notice → Type 0
Takes takes edition n = (c : Change) → told_in edition n ≡ Some c → takes c
