-- The bytes of general queries, in frames to the group of all hosts.
-- Source: RFC 2236 section 2 and RFC 791 section 3.1 (IGMP version 2), RFC 2113 (router alert), RFC 1112 section 6.4; RFC 2710
-- section 3 and RFC 8200 sections 3 and 4.3 (MLD version 1), RFC 2711 (router alert), RFC 2464 section 7; RFC 1071 (checksums).
use Rattle.std.specs.Prelude.{ℕ, ◌-◌, ◌/◌, ◌^◌, ◌==◌, Bool, not, ◌&&◌, List, [], ◌∷◌, ◌++◌, replicate}
use Rattle.std.specs.Int.{bytes_high_first}
use Rattle.br_model.specs.Data.Numbers.{is_group_four}
use Rattle.br_model.specs.Wire.Checksum.{ones_sum}
use Rattle.br_model.specs.Wire.IpHeaders.{type_four, type_six, mac_of_four, mac_of_six}
use Rattle.br_model.specs.Wire.MldHeaders.{icmp_of, pseudo_header}

-- what makes bytes sum to all one bits that hold zeros in its place
unfoldable pub checksum : List ℕ → ℕ
checksum bytes = 0xFFFF - ones_sum bytes

-- an Ethernet header
abbrev pub ethernet : ℕ → ℕ → ℕ → List ℕ
ethernet dst src kind = bytes_high_first 6 dst ++ (bytes_high_first 6 src ++ bytes_high_first 2 kind)

-- version 4

-- the address of a host of version 4: neither zero nor multicast
abbrev pub is_host_four : ℕ → Bool
is_host_four n = not (n == 0) && not (is_group_four n)

-- 224.0.0.1
abbrev pub all_systems : ℕ
all_systems = 0xE0000001

-- Version 4 and 6 words, internetwork control, 32 bytes in all; not to be fragmented; one hop, IGMP; and the option router alert.
abbrev pub header_four : ℕ → ℕ → List ℕ
header_four sum source =
    0x46 ∷ 0xC0 ∷ 0x00 ∷ 0x20 ∷ 0x00 ∷ 0x00 ∷ 0x40 ∷ 0x00 ∷ 0x01 ∷ 0x02 ∷
    (bytes_high_first 2 sum ++ (bytes_high_first 4 source ++ (bytes_high_first 4 all_systems ++ 0x94 ∷ 0x04 ∷ 0x00 ∷ 0x00 ∷ [])))

-- a membership query, to be answered within 100 tenths of a second, its checksum, and no group
abbrev pub general_query_four : List ℕ
general_query_four = 0x11 ∷ 0x64 ∷ 0xEE ∷ 0x9B ∷ 0x00 ∷ 0x00 ∷ 0x00 ∷ 0x00 ∷ []

-- the general query of version 4 from the bridge of this address
abbrev pub query_four : ℕ → ℕ → List ℕ
query_four own source =
    ethernet (mac_of_four all_systems) own type_four ++ (header_four (checksum (header_four 0 source)) source ++ general_query_four)

-- version 6

-- a link-local address: in fe80::/10
abbrev pub is_link_local_six : ℕ → Bool
is_link_local_six n = n / 2 ^ 118 == 0x3FA

-- ff02::1
abbrev pub all_nodes : ℕ
all_nodes = 0xFF020000000000000000000000000001

-- Version 6, 32 bytes behind it, one hop; and the hop-by-hop header with the option router alert for MLD, and two bytes of padding.
abbrev pub headers_six : ℕ → List ℕ
headers_six source =
    0x60 ∷ 0x00 ∷ 0x00 ∷ 0x00 ∷ 0x00 ∷ 0x20 ∷ 0x00 ∷ 0x01 ∷
    (bytes_high_first 16 source ++ (bytes_high_first 16 all_nodes ++ 0x3A ∷ 0x00 ∷ 0x05 ∷ 0x02 ∷ 0x00 ∷ 0x00 ∷ 0x01 ∷ 0x00 ∷ []))

-- a multicast listener query, its checksum, to be answered within 10,000 milliseconds, and no group
abbrev pub general_query_six : ℕ → List ℕ
general_query_six sum = 0x82 ∷ 0x00 ∷ (bytes_high_first 2 sum ++ 0x27 ∷ 0x10 ∷ 0x00 ∷ 0x00 ∷ replicate 16 0x00)

abbrev pub packet_six : ℕ → ℕ → List ℕ
packet_six sum source = headers_six source ++ general_query_six sum

-- over the pseudo-header and the message
abbrev pub checksum_six : ℕ → ℕ
checksum_six source = let packet = packet_six 0 source in checksum (pseudo_header packet ++ icmp_of packet)

-- the general query of version 6 from the bridge of this address
abbrev pub query_six : ℕ → ℕ → List ℕ
query_six own source = ethernet (mac_of_six all_nodes) own type_six ++ packet_six (checksum_six source) source
