-- Ethernet frames with or without an 802.1Q tag, and their bytes as they leave.
-- Source: IEEE 802.3 clause 3.2, IEEE 802.1Q-2018 section 9.6 (the tag); the longest frame is this profile's.
use Rattle.std.specs.Prelude.{ℕ, ◌+◌, ◌-◌, ◌*◌, ◌/◌, ◌%◌, ◌==◌, nat_lt, if◌then◌else◌, List, [], ◌∷◌, ◌++◌, length, take, drop}
use Rattle.std.specs.declared.option.Option.{Option}
use Rattle.std.specs.declared.option.Option.TheVariants.{None, Some}
use Rattle.std.specs.declared.result.Result.{Result}
use Rattle.std.specs.declared.result.Result.TheVariants.{Ok, Err}
use Rattle.br_model.specs.declared.frame.Head.{Head}
use Rattle.br_model.specs.declared.frame.Tag.{Tag}
use Rattle.br_model.specs.declared.frame.FrameFault.{FrameFault}
use Rattle.br_model.specs.declared.frame.FrameFault.TheVariants.{Short, Long, TagShort}
use Rattle.br_model.specs.Data.Numbers.{number}

-- the number that the n bytes at place i spell
abbrev pub number_at : List ℕ → ℕ → ℕ → ℕ
number_at bytes i n = number (take n (drop i bytes))

-- the type of an 802.1Q tag
abbrev pub tag_type : ℕ
tag_type = 0x8100

-- priority in the 3 highest bits, drop eligible, VLAN identifier in the 12 lowest
abbrev pub tag_of : ℕ → Tag
tag_of tci = record { pcp = tci / 8192; dei = tci / 4096 % 2 == 1; vid = tci % 4096 }

-- destination, source, tag and type, before a payload that begins at body
abbrev pub head_of : List ℕ → Option Tag → ℕ → Head
head_of bytes tag body = record { dst = number_at bytes 0 6; src = number_at bytes 6 6; tag = tag; kind = number_at bytes (body - 2) 2; body = body }

-- the bytes of the shortest and the longest frame, and of the shortest with a tag
abbrev pub shortest_frame : ℕ
shortest_frame = 14

abbrev pub longest_frame : ℕ
longest_frame = 9022

abbrev pub shortest_tagged : ℕ
shortest_tagged = 18

-- what the bytes say as a frame, or why they are none
abbrev pub frame : List ℕ → Result Head FrameFault
frame bytes =
    if nat_lt (length bytes) shortest_frame then Err Short else
    if nat_lt longest_frame (length bytes) then Err Long else
    if number_at bytes 12 2 == tag_type then (
    if nat_lt (length bytes) shortest_tagged then Err TagShort else Ok (head_of bytes (Some (tag_of (number_at bytes 14 2))) 18)
    ) else
    Ok (head_of bytes None 14)

-- the priority bits that a frame came with
abbrev pub tag_bits : Option Tag → ℕ
tag_bits None = 0
tag_bits (Some tag) = 8192 * tag.pcp + (if tag.dei then 4096 else 0)

-- the bytes of a tag with these priority bits and this VLAN
abbrev pub tag_bytes : ℕ → List ℕ
tag_bytes tci = 0x81 ∷ 0x00 ∷ tci / 256 ∷ tci % 256 ∷ []

-- the frame without a tag, or with the tag of this VLAN, which keeps the priority bits that came
abbrev pub dressed : List ℕ → Head → Option ℕ → List ℕ
dressed bytes head None = take 12 bytes ++ drop (head.body - 2) bytes
dressed bytes head (Some vid) = take 12 bytes ++ (tag_bytes (tag_bits head.tag + vid) ++ drop (head.body - 2) bytes)
