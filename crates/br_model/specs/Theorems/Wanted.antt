-- What a chip is to do with a frame, by what each of the four classes is for.
-- Source: the kernel's switchdev.rst (frames that a chip forwards and also hands to the processor, offload_fwd_mark; IGMP joins
-- and leaves are trapped). That every message of snooping goes to the processor alone is this profile's.
use Rattle.std.specs.Prelude.{◌≡◌, ℕ, ◌<◌, ◌≤◌, Bool, true, false, []}
use Rattle.std.specs.List.{All, Contains}
use Rattle.std.specs.declared.option.Option.TheVariants.{Some}
use Rattle.br_model.specs.declared.change.Kind.{Kind}
use Rattle.br_model.specs.declared.frame.Class.{Class}
use Rattle.br_model.specs.declared.frame.Class.TheVariants.{Drop, Trap, Copy, Forward}
use Rattle.br_model.specs.declared.frame.Head.{Head}
use Rattle.br_model.specs.declared.frame.McastMsg.{McastMsg}
use Rattle.br_model.specs.declared.frame.McastMsg.TheVariants.{Query, Report, Leave, Records, Unrecognized}
use Rattle.br_model.specs.declared.group.Group.{Group}
use Rattle.br_model.specs.Data.Maps.{pair_cmp, get}
use Rattle.br_model.specs.Data.Numbers.{is_multicast}
use Rattle.br_model.specs.Forward.Admission.{admit, has_valid_source, is_up, member}
use Rattle.br_model.specs.Forward.Eligible.{may}
use Rattle.br_model.specs.Forward.Leave.{ports_out}
use Rattle.br_model.specs.Forward.Targets.{port_of}
use Rattle.br_model.specs.Table.Domains.{Domains, foreign, host, port_places}
use Rattle.br_model.specs.Table.Table.{Table}

-- a message of snooping: a query or an answer to one, and what is broken and may be either
pub data IsOfSnooping : McastMsg → Type 0 where
  query : (six counted : Bool) → IsOfSnooping (Query six counted)
  report : (group : Group) → IsOfSnooping (Report group)
  leave : (group : Group) → IsOfSnooping (Leave group)
  records : (six : Bool) (first count : ℕ) → IsOfSnooping (Records six first count)
  unrecognized : IsOfSnooping Unrecognized

-- Software reads the frame: it goes to 01-80-C2-00-00-00, the spanning tree is on, the port is up and the source is one station; or
-- the port admits it, and it is a message of snooping, which is on, or goes to one of 01-80-C2-00-00-02 to 0F in a VLAN of the host.
pub data IsRead (t : Table) (port : ℕ) (head : Head) (msg : McastMsg) : Type 0 where
  tree : head.dst ≡ 0x0180C2000000 → t.stp ≡ true → is_up t port ≡ true → has_valid_source head ≡ true → IsRead t port head msg
  snooping : (vid : ℕ) → admit t port head ≡ Some vid → t.snoop ≡ true → IsOfSnooping msg → IsRead t port head msg
  reserved : (vid : ℕ) → admit t port head ≡ Some vid → 0x0180C2000002 ≤ head.dst → head.dst ≤ 0x0180C200000F → member t host vid ≡ true
      → IsRead t port head msg

-- Software alone may decide the frame: it reads it, or the port admits it to one station, which is known behind a port of another
-- domain, and that port may take it.
pub data IsForSoftware (domains : Domains) (t : Table) (port : ℕ) (head : Head) (msg : McastMsg) : Type 0 where
  read : IsRead t port head msg → IsForSoftware domains t port head msg
  station : (vid : ℕ) (e : ℕ × Kind) → admit t port head ≡ Some vid → is_multicast head.dst ≡ false → get pair_cmp t.addr (vid, head.dst) ≡ Some e
      → foreign domains port (port_of e) ≡ true → may t port (port_of e) vid ≡ true
      → IsForSoftware domains t port head msg

-- One bridge sends the frame by some port; by a port of another domain than that by which it came; by none of those.
abbrev pub Leaves : Table → ℕ → Head → McastMsg → Type 0
Leaves t port head msg = (q : ℕ) × Contains (ports_out t port head msg) q

abbrev pub LeavesElsewhere : Domains → Table → ℕ → Head → McastMsg → Type 0
LeavesElsewhere domains t port head msg = (q : ℕ) × Contains (ports_out t port head msg) q × (foreign domains port q ≡ true)

abbrev pub StaysInDomain : Domains → Table → ℕ → Head → McastMsg → Type 0
StaysInDomain domains t port head msg = (q : ℕ) → Contains (ports_out t port head msg) q → foreign domains port q ≡ false

-- A frame goes to software alone where software alone may decide it. Else the chip decides it: software gets a copy where it is to
-- leave elsewhere too, the chip forwards it where it stays in the domain, and drops it where it leaves nowhere.
abbrev pub IsWanted : Domains → Table → ℕ → Head → McastMsg → Class → Type 0
IsWanted domains t port head msg Trap = IsForSoftware domains t port head msg
IsWanted domains t port head msg Copy = (¬ IsForSoftware domains t port head msg) × LeavesElsewhere domains t port head msg
IsWanted domains t port head msg Forward =
    (¬ IsForSoftware domains t port head msg) × Leaves t port head msg × StaysInDomain domains t port head msg
IsWanted domains t port head msg Drop = (¬ IsForSoftware domains t port head msg) × (ports_out t port head msg ≡ [])

-- whether software gets frames of the class
abbrev pub comes_to_software : Class → Bool
comes_to_software Drop = false
comes_to_software Trap = true
comes_to_software Copy = true
comes_to_software Forward = false

-- Software is needed for the frame, by what one bridge does with it: it reads it, or the frame is to leave by a port of another domain.
pub data NeedsSoftware (domains : Domains) (t : Table) (port : ℕ) (head : Head) (msg : McastMsg) : Type 0 where
  reads : IsRead t port head msg → NeedsSoftware domains t port head msg
  sends : LeavesElsewhere domains t port head msg → NeedsSoftware domains t port head msg

-- each port that is up has a place in a set of ports
abbrev pub ArePorts : Table → Type 0
ArePorts t = All (λ q. q < port_places) t.up
