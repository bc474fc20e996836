-- A neighbour message as bytes, field by field, all of them little-endian.
-- Source: linux/netlink.h (struct nlmsghdr), linux/rtnetlink.h (RTM_NEWNEIGH, RTM_DELNEIGH, struct rtattr), linux/neighbour.h
-- (struct ndmsg, NDA_, NUD_ and NTF_ names), linux/socket.h (AF_BRIDGE); that a message has these fields and values alone, that its
-- sequence is a ticket, and that an ifindex is a port's number plus 1, is this profile's.
use Rattle.std.specs.Prelude.{ℕ, ◌+◌, ◌==◌, nat_lt, nat_le, Bool, true, false, not, ◌&&◌, ◌||◌, if◌then◌else◌, bit_or, List, [], ◌∷◌, ◌++◌}
use Rattle.std.specs.Int.{w16, w32, to_le_bytes, bytes_high_first}
use Rattle.br_model.specs.declared.change.Kind.{Kind}
use Rattle.br_model.specs.declared.change.Kind.TheVariants.{Local, Static, Learned, Extern}
use Rattle.br_model.specs.Control.Learning.{is_extern}
use Rattle.br_model.specs.Data.Numbers.{is_multicast}
use Rattle.br_model.specs.Table.Domains.{host, last_port}
use Rattle.br_model.specs.Table.Limits.{most_changes}
use Rattle.neigh_netlink.specs.declared.neigh.Neigh.{Neigh}

-- what a message says

abbrev pub is_local : Kind → Bool
is_local Local = true
is_local Static = false
is_local Learned = false
is_local Extern = false

-- of an entry and its kind: just the host's own addresses are local
abbrev pub fits_port : Kind → ℕ → Bool
fits_port kind port = if is_local kind then port == host else not (port == host)

-- Whether the ticket is one of a run, the address is one of a station, the kind fits the port, and an entry that went isn't
-- offloaded.
abbrev pub is_message : Neigh → Bool
is_message m =
    nat_lt m.ticket most_changes && (not (is_multicast m.mac) && (not (m.mac == 0) && (fits_port m.kind m.port && (m.new || not m.offload))))

-- whether the numbers are those of a VLAN and a port
abbrev pub has_ranges : Neigh → Bool
has_ranges m = nat_le 1 m.vid && (nat_le m.vid 4094 && nat_le m.port last_port)

-- struct nlmsghdr

abbrev pub message_length : ℕ
message_length = 48

abbrev pub rtm_newneigh : ℕ
rtm_newneigh = 28

abbrev pub rtm_delneigh : ℕ
rtm_delneigh = 29

abbrev pub nlmsg_type : Bool → ℕ
nlmsg_type new = if new then rtm_newneigh else rtm_delneigh

-- nlmsg_len, nlmsg_type, nlmsg_flags, nlmsg_seq and nlmsg_pid
abbrev pub nlmsghdr : Neigh → List ℕ
nlmsghdr m = to_le_bytes w32 message_length ++ (to_le_bytes w16 (nlmsg_type m.new) ++ (to_le_bytes w16 0 ++ (to_le_bytes w32 m.ticket ++ to_le_bytes w32 0)))

-- struct ndmsg

abbrev pub af_bridge : ℕ
af_bridge = 7

abbrev pub nud_reachable : ℕ
nud_reachable = 0x02

abbrev pub nud_noarp : ℕ
nud_noarp = 0x40

abbrev pub nud_permanent : ℕ
nud_permanent = 0x80

abbrev pub ntf_ext_learned : ℕ
ntf_ext_learned = 0x10

abbrev pub ntf_offloaded : ℕ
ntf_offloaded = 0x20

abbrev pub ndm_state : Kind → ℕ
ndm_state Local = nud_permanent
ndm_state Static = nud_noarp
ndm_state Learned = nud_reachable
ndm_state Extern = nud_reachable

abbrev pub ndm_flags : Kind → Bool → ℕ
ndm_flags kind offload = bit_or (if is_extern kind then ntf_ext_learned else 0) (if offload then ntf_offloaded else 0)

-- ndm_family, ndm_pad1, ndm_pad2, ndm_ifindex, ndm_state, ndm_flags and ndm_type
abbrev pub ndmsg : Neigh → List ℕ
ndmsg m = af_bridge ∷ 0 ∷ (to_le_bytes w16 0 ++ (to_le_bytes w32 (m.port + 1) ++ (to_le_bytes w16 (ndm_state m.kind) ++ (ndm_flags m.kind m.offload ∷ 0 ∷ []))))

-- The attributes, each a struct rtattr (rta_len, which counts itself and the type but no padding, and rta_type), a value, and padding
-- to a multiple of 4 bytes.

abbrev pub nda_lladdr : ℕ
nda_lladdr = 2

abbrev pub nda_vlan : ℕ
nda_vlan = 5

-- the address, its first byte first
abbrev pub address_attribute : ℕ → List ℕ
address_attribute mac = to_le_bytes w16 10 ++ (to_le_bytes w16 nda_lladdr ++ (bytes_high_first 6 mac ++ (0 ∷ 0 ∷ [])))

abbrev pub vlan_attribute : ℕ → List ℕ
vlan_attribute vid = to_le_bytes w16 6 ++ (to_le_bytes w16 nda_vlan ++ (to_le_bytes w16 vid ++ (0 ∷ 0 ∷ [])))

-- the 48 bytes of a message
unfoldable pub written : Neigh → List ℕ
written m = nlmsghdr m ++ (ndmsg m ++ (address_attribute m.mac ++ vlan_attribute m.vid))
