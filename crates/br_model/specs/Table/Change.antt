-- Changes of the table: what definitions ask of each beside what it does, a row a change, and the tickets under which deferred ones reach
-- a chip.
-- Source: the kernel's switchdev.rst (address entries are offloaded by deferred work) and net/bridge/br_switchdev.c
-- (br_switchdev_mdb_notify offloads members of groups with SWITCHDEV_F_DEFER, as edition 2 does); the queue is this profile's.
use Rattle.std.specs.Prelude.{ℕ, Bool, true, false, List, map}
use Rattle.std.specs.List.{filter, enumerate_from}
use Rattle.std.specs.Option.{is_some}
use Rattle.std.specs.declared.option.Option.{Option}
use Rattle.std.specs.declared.option.Option.TheVariants.{None, Some}
use Rattle.br_model.specs.declared.change.Asks.{Asks}
use Rattle.br_model.specs.declared.change.Asks.TheVariants.{Nothing, State, GroupRoom, AddressRoom}
use Rattle.br_model.specs.declared.change.Change.{Change}
use Rattle.br_model.specs.declared.change.Change.TheVariants.{PortUp, PortDown, SetFlags, SetState, VlanAdd, VlanDel, GroupJoin, GroupPart, Router, Querier, Snoop, Stp, AddrPut, AddrDel}
use Rattle.br_model.specs.declared.change.Kind.{Kind}
use Rattle.br_model.specs.declared.change.Update.{Update}
use Rattle.br_model.specs.declared.domains.Edition.{Edition}
use Rattle.br_model.specs.declared.domains.Edition.TheVariants.{One, Two}
use Rattle.br_model.specs.Table.Groups.{Membership}

-- What the control plane keeps with a part of the table, such as when it ends, and whether that part is there behind the change.
pub data Timed : Type 0 where
  Untimed : Timed
  TimedMember : Membership → Bool → Timed
  TimedRouter : ℕ → Bool → Timed
  TimedQuerier : Bool → Bool → Timed
  -- the entry at a VLAN and address
  TimedEntry : ℕ × ℕ → Bool → Timed

pub record Subject : Type 0 where
  -- the address entry that it is of, by VLAN and address; and the port and the kind that it puts there, none where it deletes the entry
  pub entry : Option ((ℕ × ℕ) × Option (ℕ × Kind))
  -- what it asks for
  pub needs : Asks
  -- whether it reaches a chip through the queue; any other change does in the step that accepts it
  pub later : Edition → Bool
  pub timed : Timed

-- whether the members of groups reach a chip through the queue
abbrev pub groups_deferred : Edition → Bool
groups_deferred One = false
groups_deferred Two = true

abbrev pub never : Edition → Bool
never edition = false

abbrev pub always : Edition → Bool
always edition = true

-- A state is to be one of Linux's; a pair of VLAN and group or an address that comes wants room.
abbrev pub subject : Change → Subject
subject (PortUp port) = record { entry = None; needs = Nothing; later = never; timed = Untimed }
subject (PortDown port) = record { entry = None; needs = Nothing; later = never; timed = Untimed }
subject (SetFlags port flags) = record { entry = None; needs = Nothing; later = never; timed = Untimed }
subject (SetState port state) = record { entry = None; needs = State state; later = never; timed = Untimed }
subject (VlanAdd port vid untagged pvid) = record { entry = None; needs = Nothing; later = never; timed = Untimed }
subject (VlanDel port vid) = record { entry = None; needs = Nothing; later = never; timed = Untimed }
subject (GroupJoin port vid group) =
    record { entry = None; needs = GroupRoom vid group; later = groups_deferred; timed = TimedMember (vid, group, port) true }
subject (GroupPart port vid group) =
    record { entry = None; needs = Nothing; later = groups_deferred; timed = TimedMember (vid, group, port) false }
subject (Router port on) = record { entry = None; needs = Nothing; later = never; timed = TimedRouter port on }
subject (Querier six on) = record { entry = None; needs = Nothing; later = never; timed = TimedQuerier six on }
subject (Snoop on) = record { entry = None; needs = Nothing; later = never; timed = Untimed }
subject (Stp on) = record { entry = None; needs = Nothing; later = never; timed = Untimed }
subject (AddrPut vid mac port kind) =
    record { entry = Some ((vid, mac), Some (port, kind)); needs = AddressRoom vid mac; later = always; timed = TimedEntry (vid, mac) true }
subject (AddrDel vid mac) =
    record { entry = Some ((vid, mac), None); needs = Nothing; later = always; timed = TimedEntry (vid, mac) false }

-- the address entry that it is of
abbrev pub address_part : Change → Option ((ℕ × ℕ) × Option (ℕ × Kind))
address_part c = (subject c).entry

-- whether it is of an address entry
abbrev pub is_of_address : Change → Bool
is_of_address c = is_some (address_part c)

-- what it asks for
abbrev pub asks : Change → Asks
asks c = (subject c).needs

-- whether it reaches a chip through the queue
abbrev pub deferred : Edition → Change → Bool
deferred edition c = (subject c).later edition

-- the deferred changes in order, with tickets 0, 1, 2 and so on
abbrev pub updates : Edition → List Change → List Update
updates edition history = map (λ x. record { ticket = x.0; change = x.1 }) (enumerate_from 0 (filter (deferred edition) history))
