-- What a message of IGMP and MLD does: who is a member, where a router is, and until when.
-- Source: RFC 4541 sections 2.1.1 and 2.1.2, RFC 2236 section 3, RFC 3376 section 6, the kernel's br_multicast.c (fast leave,
-- queriers). That one port is one member, and what an unhurried leave does, are this profile's.
use Rattle.std.specs.Prelude.{ℕ, ◌+◌, min, Bool, true, not, if◌then◌else◌, List}
use Rattle.std.specs.List.{fold}
use Rattle.std.specs.Ordering.{nat_cmp}
use Rattle.std.specs.Option.{option_map_or}
use Rattle.std.specs.declared.option.Option.{Option}
use Rattle.std.specs.declared.option.Option.TheVariants.{None, Some}
use Rattle.br_model.specs.declared.change.Change.TheVariants as changes
use Rattle.br_model.specs.declared.frame.Act.{Act}
use Rattle.br_model.specs.declared.frame.Act.TheVariants.{Join, Part, Nothing}
use Rattle.br_model.specs.declared.frame.Head.{Head}
use Rattle.br_model.specs.declared.frame.McastMsg.{McastMsg}
use Rattle.br_model.specs.declared.frame.McastMsg.TheVariants.{Plain, Payload, Query, Report, Leave, Records, Unrecognized}
use Rattle.br_model.specs.declared.group.Group.{Group}
use Rattle.br_model.specs.Forward.Admission.{admit}
use Rattle.br_model.specs.Control.Control.{ends_with}
use Rattle.br_model.specs.Control.Course.{Course, makes}
use Rattle.br_model.specs.Control.Ends.{member_time, leave_time, end_of, lasts, routes, queries}
use Rattle.br_model.specs.Table.GroupPairs.{has_room}
use Rattle.br_model.specs.Table.Groups.{Membership, is_link_local, membership_cmp}
use Rattle.br_model.specs.Data.Maps.{get, has}
use Rattle.br_model.specs.Wire.Messages.{message}
use Rattle.br_model.specs.Wire.Records.{acts}
use Rattle.br_model.specs.Forward.Targets.{has_flag, knows_querier}

-- the place of the flag
abbrev pub fastleave : ℕ
fastleave = 5

-- memberships

-- when the membership ends, where it does
abbrev pub end_at : Course → Membership → Option ℕ
end_at r m = end_of (get membership_cmp r.control.ends.groups m)

-- the membership ends at this moment
abbrev pub until : ℕ → Membership → Course → Course
until end m r = record r { control = ends_with r.control (lasts r.control.ends m (Some end)) }

-- A report, or a record that joins. A membership that was made by command stays as it is.
abbrev pub joins : ℕ → ℕ → Group → Course → Course
joins port vid group r =
    if is_link_local group then r else
    if not (has_room r.table.groups vid group) then r else
    if has membership_cmp r.table.groups (vid, group, port) then (
    option_map_or (λ end. until (r.control.now + member_time) (vid, group, port) r) (end_at r (vid, group, port)) r
    ) else
    until (r.control.now + member_time) (vid, group, port) (makes r (changes.GroupJoin port vid group))

-- the same of a membership that ends at this moment
abbrev pub leaves_from : ℕ → ℕ → Group → ℕ → Course → Course
leaves_from port vid group end r =
    if has_flag r.table port fastleave then makes r (changes.GroupPart port vid group) else
    until (min end (r.control.now + leave_time)) (vid, group, port) r

-- A leave, or a record that leaves: of a membership that ends.
abbrev pub leaves : ℕ → ℕ → Group → Course → Course
leaves port vid group r = option_map_or (λ end. leaves_from port vid group end r) (end_at r (vid, group, port)) r

abbrev pub acted : ℕ → ℕ → Course → Act → Course
acted port vid r (Join group) = joins port vid group r
acted port vid r (Part group) = leaves port vid group r
acted port vid r Nothing = r

-- queriers and routers

abbrev pub querier_heard : Bool → Course → Course
querier_heard six r =
    if knows_querier r.table six then record r { control = ends_with r.control (queries true r.control.ends r.control.now six) } else
    makes r (changes.Querier six true)

abbrev pub router_heard : ℕ → Course → Course
router_heard port r =
    if has nat_cmp r.table.routers port then record r { control = ends_with r.control (routes true r.control.ends r.control.now port) } else
    makes r (changes.Router port true)

-- Only a general query from an address that isn't zero is counted.
abbrev pub queried : ℕ → Bool → Bool → Course → Course
queried port six counted r = if counted then router_heard port (querier_heard six r) else r

-- messages

-- what a message in these bytes does at the port in the VLAN; records act one after another
abbrev pub said : ℕ → ℕ → List ℕ → McastMsg → Course → Course
said port vid bytes Plain r = r
said port vid bytes (Payload group) r = r
said port vid bytes (Query six counted) r = queried port six counted r
said port vid bytes (Report group) r = joins port vid group r
said port vid bytes (Leave group) r = leaves port vid group r
said port vid bytes (Records six first count) r = fold (acted port vid) r (acts bytes six first count)
said port vid bytes Unrecognized r = r

abbrev pub snoops_in : ℕ → Option ℕ → List ℕ → Head → Course → Course
snoops_in port None bytes head r = r
snoops_in port (Some vid) bytes head r = if r.table.snoop then said port vid bytes (message bytes head) r else r

-- What a frame does that the port admits, where snooping is on.
abbrev pub snoops : ℕ → List ℕ → Head → Course → Course
snoops port bytes head r = snoops_in port (admit r.table port head) bytes head r
