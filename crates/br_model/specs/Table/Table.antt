-- The table that a list of accepted changes comes to: their fold over the start table, each change on its own part.
-- Source: the kernel's net/bridge (ports, VLAN groups, forwarding and multicast databases), IEEE 802.1Q-2018 section 8.8
-- (the VLAN of untagged frames, untagged membership).
use Rattle.std.specs.Prelude.{ℕ, ◌==◌, Bool, true, false, if◌then◌else◌, List, [], ◌∷◌}
use Rattle.std.specs.List.{fold}
use Rattle.std.specs.declared.option.Option.TheVariants.{Some}
use Rattle.std.specs.Option.{option_eq}
use Rattle.std.specs.Ordering.{nat_cmp}
use Rattle.br_model.specs.declared.domains.Edition.{Edition}
use Rattle.br_model.specs.declared.domains.Edition.TheVariants.{One, Two}
use Rattle.br_model.specs.declared.change.Kind.{Kind}
use Rattle.br_model.specs.declared.change.Change.{Change}
use Rattle.br_model.specs.declared.change.Change.TheVariants.{PortUp, PortDown, SetFlags, SetState, VlanAdd, VlanDel, GroupJoin, GroupPart, Router, Querier, Snoop, Stp, AddrPut, AddrDel}
use Rattle.br_model.specs.Table.Domains.{host}
use Rattle.br_model.specs.Table.Groups.{Membership, membership_cmp}
use Rattle.br_model.specs.Data.Maps.{pair_cmp, get, put, without, joined, parted}

pub record Table : Type 0 where
  -- the ports that are up
  pub up : List ℕ
  -- the flags and the state of each of them
  pub flags : List (ℕ × ℕ)
  pub state : List (ℕ × ℕ)
  -- at a VLAN and a member port: whether frames leave it untagged
  pub vlans : List ((ℕ × ℕ) × Bool)
  -- at a port: the VLAN of untagged frames
  pub pvid : List (ℕ × ℕ)
  -- the members of groups
  pub groups : List Membership
  -- the ports behind which a multicast router is
  pub routers : List ℕ
  -- the IP versions of which a querier is known
  pub queriers : List ℕ
  -- whether multicast snooping and the spanning tree are on
  pub snoop : Bool
  pub stp : Bool
  -- at a VLAN and an address: its port and its kind
  pub addr : List ((ℕ × ℕ) × (ℕ × Kind))

-- learning, flood, mcast_flood and bcast_flood
abbrev pub default_flags : ℕ
default_flags = 15

-- those and isolated and fastleave
abbrev pub all_flags : ℕ
all_flags = 63

abbrev pub disabled : ℕ
disabled = 0

abbrev pub default_vlan : ℕ
default_vlan = 1

-- No port is up, the host is an untagged member of VLAN 1, snooping is on, the spanning tree is off.
abbrev pub start : Table
start = record {
  up = [];
  flags = [];
  state = [];
  vlans = ((default_vlan, host), true) ∷ [];
  pvid = [];
  groups = [];
  routers = [];
  queriers = [];
  snoop = true;
  stp = false;
  addr = [];
}

abbrev pub ip_version : Bool → ℕ
ip_version six = if six then 6 else 4

-- the set with the member or without it
abbrev pub switched : Bool → List ℕ → ℕ → List ℕ
switched on s n = if on then joined nat_cmp s n else parted nat_cmp s n

-- where the VLAN was the port's PVID, the port has none
abbrev pub without_pvid : List (ℕ × ℕ) → ℕ → ℕ → List (ℕ × ℕ)
without_pvid m port vid = if option_eq (λ x y. x == y) (get nat_cmp m port) (Some vid) then without nat_cmp m port else m

abbrev pub apply : Table → Change → Table
apply t (PortUp p) = record t { up = joined nat_cmp t.up p; flags = put nat_cmp t.flags p default_flags; state = put nat_cmp t.state p disabled }
apply t (PortDown p) = record t { up = parted nat_cmp t.up p; flags = without nat_cmp t.flags p; state = without nat_cmp t.state p }
apply t (SetFlags p s) = record t { flags = put nat_cmp t.flags p s }
apply t (SetState p n) = record t { state = put nat_cmp t.state p n }
apply t (VlanAdd p v untagged pvid) = record t { vlans = put pair_cmp t.vlans (v, p) untagged; pvid = if pvid then put nat_cmp t.pvid p v else t.pvid }
apply t (VlanDel p v) = record t { vlans = without pair_cmp t.vlans (v, p); pvid = without_pvid t.pvid p v }
apply t (GroupJoin p v g) = record t { groups = joined membership_cmp t.groups (v, g, p) }
apply t (GroupPart p v g) = record t { groups = parted membership_cmp t.groups (v, g, p) }
apply t (Router p on) = record t { routers = switched on t.routers p }
apply t (Querier six on) = record t { queriers = switched on t.queriers (ip_version six) }
apply t (Snoop on) = record t { snoop = on }
apply t (Stp on) = record t { stp = on }
apply t (AddrPut v a p kind) = record t { addr = put pair_cmp t.addr (v, a) (p, kind) }
apply t (AddrDel v a) = record t { addr = without pair_cmp t.addr (v, a) }

-- the table of a list of changes
abbrev pub table : List Change → Table
table history = fold apply start history

-- the table with these addresses in the place of its own
abbrev pub with_addresses : Table → List ((ℕ × ℕ) × (ℕ × Kind)) → Table
with_addresses t entries = record t { addr = entries }

-- the table with another one's deferred parts in the place of its own: the addresses, and in edition 2 the groups
abbrev pub with_deferred : Edition → Table → Table → Table
with_deferred One t late = record t { addr = late.addr }
with_deferred Two t late = record t { groups = late.groups; addr = late.addr }
