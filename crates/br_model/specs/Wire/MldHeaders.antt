-- Where a message of MLD stands in a packet of IP version 6, and what its checksum covers.
-- Source: RFC 2710 section 3 (a hop-by-hop header comes before it), RFC 8200 sections 4.3 and 8.1. The router alert in the
-- hop-by-hop header and the hop limit aren't tested: this profile.
use Rattle.std.specs.Prelude.{ℕ, ◌+◌, ◌*◌, ◌/◌, ◌%◌, ◌^◌, ◌==◌, nat_lt, Bool, ◌&&◌, ◌||◌, List, [], ◌∷◌, ◌++◌, length, drop, slice_index}
use Rattle.br_model.specs.Wire.Checksum.{is_summed}
use Rattle.br_model.specs.Wire.IpHeaders.{next_six, body_six, addresses_six}

-- the next header values of the hop-by-hop header and of ICMPv6
abbrev pub hop_by_hop : ℕ
hop_by_hop = 0

abbrev pub icmp_six : ℕ
icmp_six = 58

-- the length of the hop-by-hop header, which counts 8 bytes at a time behind its first 8
abbrev pub hop_length : List ℕ → ℕ
hop_length body = 8 * (slice_index body 1 + 1)

-- what stands behind the hop-by-hop header
abbrev pub icmp_of : List ℕ → List ℕ
icmp_of packet = drop (hop_length (body_six packet)) (body_six packet)

-- a hop-by-hop header, and ICMPv6 right behind it
abbrev pub has_icmp : List ℕ → Bool
has_icmp packet =
    next_six packet == hop_by_hop
    && (slice_index (body_six packet) 0 == icmp_six && nat_lt (hop_length (body_six packet)) (length (body_six packet)))

-- the types of MLD's messages
abbrev pub query_six : ℕ
query_six = 130

abbrev pub report_six : ℕ
report_six = 131

abbrev pub done_six : ℕ
done_six = 132

abbrev pub records_six : ℕ
records_six = 143

abbrev pub is_mld_type : ℕ → Bool
is_mld_type kind = kind == query_six || (kind == report_six || (kind == done_six || kind == records_six))

abbrev pub has_mld : List ℕ → Bool
has_mld packet = has_icmp packet && is_mld_type (slice_index (icmp_of packet) 0)

-- four bytes that spell the number
abbrev pub four_bytes : ℕ → List ℕ
four_bytes n = n / 2 ^ 24 ∷ n / 2 ^ 16 % 256 ∷ n / 2 ^ 8 % 256 ∷ n % 256 ∷ []

-- the pseudo-header: both addresses, the message's length, and its next header value
abbrev pub pseudo_header : List ℕ → List ℕ
pseudo_header packet = addresses_six packet ++ (four_bytes (length (icmp_of packet)) ++ 0 ∷ 0 ∷ 0 ∷ icmp_six ∷ [])

abbrev pub is_summed_six : List ℕ → Bool
is_summed_six packet = is_summed (pseudo_header packet ++ icmp_of packet)
