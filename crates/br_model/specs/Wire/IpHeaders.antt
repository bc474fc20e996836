-- The headers of multicast packets of IP, and the Ethernet addresses that such packets are sent to.
-- Source: RFC 791 section 3.1, RFC 8200 section 3, RFC 1112 section 6.4 and RFC 2464 section 7 (the Ethernet addresses), RFC 4541
-- section 2.1.1 (what is tested of a header before a message in it is read).
use Rattle.std.specs.Prelude.{ℕ, ◌+◌, ◌-◌, ◌*◌, ◌/◌, ◌%◌, ◌^◌, ◌==◌, nat_le, Bool, not, ◌&&◌, List, length, take, drop, slice_index}
use Rattle.br_model.specs.Wire.Frames.{number_at}
use Rattle.br_model.specs.Data.Numbers.{is_group_four, is_group_six}

abbrev pub type_four : ℕ
type_four = 0x0800

abbrev pub type_six : ℕ
type_six = 0x86DD

-- the version, which both headers begin with
abbrev pub ip_version_of : List ℕ → ℕ
ip_version_of packet = slice_index packet 0 / 16

-- version 4

-- the header's length in bytes, which counts its options
abbrev pub header_four : List ℕ → ℕ
header_four packet = 4 * (slice_index packet 0 % 16)

-- the length of header and body
abbrev pub total_four : List ℕ → ℕ
total_four packet = number_at packet 2 2

abbrev pub protocol_four : List ℕ → ℕ
protocol_four packet = slice_index packet 9

abbrev pub source_four : List ℕ → ℕ
source_four packet = number_at packet 12 4

abbrev pub destination_four : List ℕ → ℕ
destination_four packet = number_at packet 16 4

-- Its offset isn't zero, or more fragments follow.
abbrev pub is_fragment : List ℕ → Bool
is_fragment packet = not (number_at packet 6 2 % 2 ^ 14 == 0)

-- what stands behind the header
abbrev pub body_four : List ℕ → List ℕ
body_four packet = take (total_four packet - header_four packet) (drop (header_four packet) packet)

-- a whole header, and a whole body
abbrev pub is_whole_four : List ℕ → Bool
is_whole_four packet =
    nat_le 20 (length packet) && (ip_version_of packet == 4 && (nat_le 20 (header_four packet)
    && (nat_le (header_four packet) (total_four packet) && nat_le (total_four packet) (length packet))))

-- 01-00-5E, and the lowest 23 bits of the group's address
abbrev pub mac_of_four : ℕ → ℕ
mac_of_four group = 0x01005E000000 + group % 2 ^ 23

-- a whole packet to a group, in a frame to that group's address
abbrev pub is_multicast_four : ℕ → List ℕ → Bool
is_multicast_four dst packet =
    is_whole_four packet && (is_group_four (destination_four packet) && dst == mac_of_four (destination_four packet))

-- version 6

-- the length of what stands behind the 40 bytes of the header
abbrev pub length_six : List ℕ → ℕ
length_six packet = number_at packet 4 2

abbrev pub next_six : List ℕ → ℕ
next_six packet = slice_index packet 6

abbrev pub source_six : List ℕ → ℕ
source_six packet = number_at packet 8 16

abbrev pub destination_six : List ℕ → ℕ
destination_six packet = number_at packet 24 16

-- the source and the destination, as bytes
abbrev pub addresses_six : List ℕ → List ℕ
addresses_six packet = take 32 (drop 8 packet)

abbrev pub body_six : List ℕ → List ℕ
body_six packet = take (length_six packet) (drop 40 packet)

abbrev pub is_whole_six : List ℕ → Bool
is_whole_six packet = nat_le 40 (length packet) && (ip_version_of packet == 6 && nat_le (40 + length_six packet) (length packet))

-- 33-33, and the lowest 32 bits of the group's address
abbrev pub mac_of_six : ℕ → ℕ
mac_of_six group = 0x333300000000 + group % 2 ^ 32

abbrev pub is_multicast_six : ℕ → List ℕ → Bool
is_multicast_six dst packet =
    is_whole_six packet && (is_group_six (destination_six packet) && dst == mac_of_six (destination_six packet))
