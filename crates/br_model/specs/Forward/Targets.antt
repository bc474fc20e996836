-- Where an admitted frame is to go, before it is asked which of these ports may take it.
-- Source: IEEE 802.1D-1998 sections 7.7 and 7.12.6 (entries, reserved addresses), RFC 4541 section 2.1 (snooping), the kernel's
-- br_handle_frame and should_deliver (flood flags per port, group_fwd_mask 0). That the addresses 02 to 0F go to the host, and
-- only of admitted frames, is this profile's.
use Rattle.std.specs.Prelude.{ℕ, ◌/◌, ◌%◌, ◌^◌, ◌==◌, nat_lt, nat_le, Bool, not, ◌&&◌, ◌||◌, if◌then◌else◌, List, [], ◌∷◌, ◌++◌, map}
use Rattle.std.specs.List.{filter}
use Rattle.std.specs.declared.option.Option.{Option}
use Rattle.std.specs.declared.option.Option.TheVariants.{None, Some}
use Rattle.std.specs.Option.{unwrap_or}
use Rattle.std.specs.Ordering.{nat_cmp, is_eq}
use Rattle.br_model.specs.declared.change.Kind.{Kind}
use Rattle.br_model.specs.declared.change.Kind.TheVariants.{Local, Static, Learned, Extern}
use Rattle.br_model.specs.declared.frame.Head.{Head}
use Rattle.br_model.specs.declared.frame.McastMsg.{McastMsg}
use Rattle.br_model.specs.declared.frame.McastMsg.TheVariants.{Plain, Payload, Query, Report, Leave, Records, Unrecognized}
use Rattle.br_model.specs.declared.group.Group.{Group}
use Rattle.br_model.specs.Forward.Admission.{is_up, has_valid_source}
use Rattle.br_model.specs.Table.Domains.{host}
use Rattle.br_model.specs.Table.Groups.{is_six, is_link_local, group_cmp}
use Rattle.br_model.specs.Data.Maps.{pair_cmp, get, has}
use Rattle.br_model.specs.Data.Numbers.{is_multicast, broadcast}
use Rattle.br_model.specs.Table.Table.{Table, ip_version}

-- the places of the flags, from the lowest bit
abbrev pub flood : ℕ
flood = 1

abbrev pub mcast_flood : ℕ
mcast_flood = 2

abbrev pub bcast_flood : ℕ
bcast_flood = 3

abbrev pub isolated : ℕ
isolated = 4

abbrev pub has_flag : Table → ℕ → ℕ → Bool
has_flag t port flag = unwrap_or (get nat_cmp t.flags port) 0 / 2 ^ flag % 2 == 1

-- 01-80-C2-00-00-00
abbrev pub bridge_group_address : ℕ
bridge_group_address = 0x0180C2000000

-- 01-80-C2-00-00-01
abbrev pub pause_address : ℕ
pause_address = 0x0180C2000001

-- 01-80-C2-00-00-02 to 0F
abbrev pub is_for_the_host : ℕ → Bool
is_for_the_host address = nat_lt pause_address address && nat_le address 0x0180C200000F

-- whether the frame is for the spanning tree
abbrev pub to_tree : Table → ℕ → Head → Bool
to_tree t port head = head.dst == bridge_group_address && (t.stp && (is_up t port && has_valid_source head))

-- the ports that are up and have the flag
abbrev pub with_flag : Table → ℕ → List ℕ
with_flag t flag = filter (λ port. has_flag t port flag) t.up

abbrev pub multicast_flood : Table → List ℕ
multicast_flood t = host ∷ with_flag t mcast_flood

-- where an entry sends: the host for a local one
abbrev pub port_of : ℕ × Kind → ℕ
port_of (port, Local) = host
port_of (port, Static) = port
port_of (port, Learned) = port
port_of (port, Extern) = port

-- by the entry of the destination, or by flooding
abbrev pub unicast_targets : Table → Option (ℕ × Kind) → List ℕ
unicast_targets t None = with_flag t flood
unicast_targets t (Some entry) = port_of entry ∷ []

abbrev pub knows_querier : Table → Bool → Bool
knows_querier t six = has nat_cmp t.queriers (ip_version six)

-- the ports that are members of the group in the VLAN
abbrev pub members_of : Table → ℕ → Group → List ℕ
members_of t vid group = map (λ m. m.2) (filter (λ m. m.0 == vid && is_eq (group_cmp m.1 group)) t.groups)

-- to the routers, once a querier is known
abbrev pub to_routers : Table → Bool → List ℕ
to_routers t six = if knows_querier t six then t.routers else multicast_flood t

abbrev pub to_members : Table → ℕ → Group → List ℕ
to_members t vid group =
    if is_link_local group || not (knows_querier t (is_six group)) then multicast_flood t else members_of t vid group ++ t.routers

abbrev pub snooped_targets : Table → ℕ → McastMsg → List ℕ
snooped_targets t vid Plain = multicast_flood t
snooped_targets t vid (Query six counted) = multicast_flood t
snooped_targets t vid Unrecognized = multicast_flood t
snooped_targets t vid (Payload group) = to_members t vid group
snooped_targets t vid (Report group) = to_routers t (is_six group)
snooped_targets t vid (Leave group) = to_routers t (is_six group)
snooped_targets t vid (Records six first count) = to_routers t six

abbrev pub targets : Table → ℕ → Head → McastMsg → List ℕ
targets t vid head msg =
    if head.dst == bridge_group_address && t.stp then [] else
    if head.dst == pause_address then [] else
    if is_for_the_host head.dst then host ∷ [] else
    if head.dst == broadcast then host ∷ with_flag t bcast_flood else
    if not (is_multicast head.dst) then unicast_targets t (get pair_cmp t.addr (vid, head.dst)) else
    if t.snoop then snooped_targets t vid msg else
    multicast_flood t
