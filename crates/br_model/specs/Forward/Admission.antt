-- Which frames a port admits, and in which VLAN.
-- Source: IEEE 802.1D-1998 section 7.4 (only a forwarding port admits), the kernel's is_valid_ether_addr (the source) and
-- br_allowed_ingress, IEEE 802.1Q-2018 sections 6.9, 8.6.2 and 9.6 (the VLAN of a frame, ingress filtering, VID 0). That a tag
-- with VID 4095 gives no VLAN is this profile's.
use Rattle.std.specs.Prelude.{ℕ, ◌==◌, nat_lt, Bool, not, ◌&&◌, if◌then◌else◌}
use Rattle.std.specs.declared.option.Option.{Option}
use Rattle.std.specs.declared.option.Option.TheVariants.{None, Some}
use Rattle.std.specs.Option.{option_eq, is_some}
use Rattle.std.specs.Ordering.{nat_cmp}
use Rattle.br_model.specs.declared.frame.Head.{Head}
use Rattle.br_model.specs.declared.frame.Tag.{Tag}
use Rattle.br_model.specs.Data.Maps.{pair_cmp, get, has}
use Rattle.br_model.specs.Data.Numbers.{is_multicast}
use Rattle.br_model.specs.Table.Table.{Table}

-- Linux's numbers of the states
abbrev pub learning : ℕ
learning = 2

abbrev pub forwarding : ℕ
forwarding = 3

abbrev pub is_up : Table → ℕ → Bool
is_up t port = has nat_cmp t.up port

-- whether the port is up, in this state
abbrev pub is_in_state : Table → ℕ → ℕ → Bool
is_in_state t port state = is_up t port && option_eq (λ x y. x == y) (get nat_cmp t.state port) (Some state)

abbrev pub is_forwarding : Table → ℕ → Bool
is_forwarding t port = is_in_state t port forwarding

abbrev pub member : Table → ℕ → ℕ → Bool
member t port vid = is_some (get pair_cmp t.vlans (vid, port))

-- whether the source is one station's address
abbrev pub has_valid_source : Head → Bool
has_valid_source head = not (is_multicast head.src) && not (head.src == 0)

-- The last VLAN; a VID has 12 bits, and 4095 is no VLAN's.
abbrev pub last_vid : ℕ
last_vid = 4094

-- The VLAN that the tag, or its absence, gives at the port. A tag with VID 0 gives a priority alone.
abbrev pub vlan_of_tag : Table → ℕ → Option Tag → Option ℕ
vlan_of_tag t port None = get nat_cmp t.pvid port
vlan_of_tag t port (Some tag) =
    if nat_lt last_vid tag.vid then None else
    if tag.vid == 0 then get nat_cmp t.pvid port else
    if member t port tag.vid then Some tag.vid else
    None

abbrev pub vlan_of : Table → ℕ → Head → Option ℕ
vlan_of t port head = vlan_of_tag t port head.tag

-- the VLAN in which the port admits the frame
abbrev pub admit : Table → ℕ → Head → Option ℕ
admit t port head = if is_forwarding t port && has_valid_source head then vlan_of t port head else None
