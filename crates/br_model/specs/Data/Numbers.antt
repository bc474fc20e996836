-- Numbers that bytes spell, and what addresses name.
-- Source: IEEE 802.3 clause 3.2.3 (the group bit of an address), RFC 1112 section 4 and RFC 4291 section 2.7 (multicast groups).
use Rattle.std.specs.Prelude.{ℕ, ◌+◌, ◌*◌, ◌/◌, ◌%◌, ◌^◌, ◌==◌, Bool, List}
use Rattle.std.specs.List.{fold}

-- the number that the bytes spell, the first one highest
abbrev pub number : List ℕ → ℕ
number bytes = fold (λ n byte. 256 * n + byte) 0 bytes

-- whether an address names a group: the lowest bit of its first byte
abbrev pub is_multicast : ℕ → Bool
is_multicast address = address / 2 ^ 40 % 2 == 1

-- FF-FF-FF-FF-FF-FF
abbrev pub broadcast : ℕ
broadcast = 0xFFFFFFFFFFFF

-- whether an address of IP version 4 is in 224.0.0.0/4
abbrev pub is_group_four : ℕ → Bool
is_group_four n = n / 2 ^ 28 == 14

-- whether an address of IP version 6 is in ff00::/8
abbrev pub is_group_six : ℕ → Bool
is_group_six n = n / 2 ^ 120 == 255
