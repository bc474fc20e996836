-- `mdb add`, `mdb del`, `snooping`.
-- Source: iproute2's `bridge mdb` and `mcast_snooping`, the kernel's net/bridge/br_mdb.c (of groups that are always flooded it
-- keeps no members); the order of refusals is this profile's.
use Rattle.std.specs.Prelude.{ℕ, Bool, not, ◌&&◌, if◌then◌else◌, List, [], ◌∷◌}
use Rattle.std.specs.declared.result.Result.{Result}
use Rattle.std.specs.declared.result.Result.TheVariants.{Ok, Err}
use Rattle.br_model.specs.declared.change.Change.{Change}
use Rattle.br_model.specs.declared.change.Change.TheVariants as changes
use Rattle.br_model.specs.declared.group.Group.{Group}
use Rattle.br_model.specs.declared.group.Group.TheVariants.{V4, V6}
use Rattle.br_model.specs.declared.group.Ip.{Ip}
use Rattle.br_model.specs.declared.group.Ip.TheVariants as ip
use Rattle.br_model.specs.declared.steps.Refusal.{Refusal}
use Rattle.br_model.specs.declared.steps.Refusal.TheVariants.{PortNotUp, NotMember, Exists, Absent, GroupsFull, NotAGroup}
use Rattle.br_model.specs.Forward.Admission.{member}
use Rattle.br_model.specs.Control.Commands.Ports.{is_down}
use Rattle.br_model.specs.Table.Groups.{is_link_local, membership_cmp}
use Rattle.br_model.specs.Table.Limits.{fits}
use Rattle.br_model.specs.Data.Maps.{has}
use Rattle.br_model.specs.Data.Numbers.{is_group_four, is_group_six}
use Rattle.br_model.specs.Table.Table.{Table}

-- whether the address is a group's that can have members: it is multicast, and not always flooded
abbrev pub is_a_group : Ip → Bool
is_a_group (ip.V4 n) = is_group_four n && not (is_link_local (V4 n))
is_a_group (ip.V6 n) = is_group_six n && not (is_link_local (V6 n))

abbrev pub group_of : Ip → Group
group_of (ip.V4 n) = V4 n
group_of (ip.V6 n) = V6 n

-- whether the port is a member of the group in the VLAN, until a moment or without an end
abbrev pub is_joined : Table → ℕ → ℕ → Group → Bool
is_joined t port vid group = has membership_cmp t.groups (vid, group, port)

abbrev pub mdb_add : Table → ℕ → ℕ → Ip → Result (List Change) Refusal
mdb_add t port vid address =
    if is_down t port then Err PortNotUp else
    if not (is_a_group address) then Err NotAGroup else
    if not (member t port vid) then Err NotMember else
    if is_joined t port vid (group_of address) then Err Exists else
    if not (fits t (changes.GroupJoin port vid (group_of address))) then Err GroupsFull else
    Ok (changes.GroupJoin port vid (group_of address) ∷ [])

abbrev pub mdb_del : Table → ℕ → ℕ → Ip → Result (List Change) Refusal
mdb_del t port vid address =
    if is_down t port then Err PortNotUp else
    if not (is_a_group address) then Err NotAGroup else
    if not (is_joined t port vid (group_of address)) then Err Absent else
    Ok (changes.GroupPart port vid (group_of address) ∷ [])

-- whether snooping is on, or off, already
abbrev pub is_snooping : Table → Bool → Bool
is_snooping t on = if on then t.snoop else not t.snoop

-- none where it is so already; groups, router ports and queriers stay
abbrev pub snooping : Table → Bool → Result (List Change) Refusal
snooping t on = Ok (if is_snooping t on then [] else changes.Snoop on ∷ [])
