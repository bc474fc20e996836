-- The frames that carry spanning tree messages (BPDUs), as functions of whole byte lists.
-- Source: IEEE 802.1D-1998 sections 7.12.3 (address, LLC) and 9.1 to 9.3 (encoding). That any version is taken, and the
-- padding that is written, are this profile's.
use Rattle.std.specs.Prelude.{ℕ, ◌+◌, ◌-◌, ◌==◌, nat_le, Bool, ◌&&◌, if◌then◌else◌, List, [], ◌∷◌, ◌++◌, length, take, drop, replicate}
use Rattle.std.specs.Cmp.Lexicographic.{pointwise}
use Rattle.std.specs.Int.{bytes_high_first}
use Rattle.std.specs.declared.option.Option.{Option}
use Rattle.std.specs.declared.option.Option.TheVariants.{None, Some}
use Rattle.br_model.specs.declared.bpdu.BpduMsg.{BpduMsg}
use Rattle.br_model.specs.declared.bpdu.BpduMsg.TheVariants.{Config, Tcn}
use Rattle.br_model.specs.Wire.Frames.{number_at}
use Rattle.br_model.specs.Forward.Targets.{bridge_group_address}

-- where the type field of an untagged frame stands: here the length of what follows it
abbrev pub length_at : ℕ
length_at = 12

-- destination and source service access points 42, unnumbered information (IEEE 802.2), then protocol 0
abbrev pub llc_and_protocol : List ℕ
llc_and_protocol = 0x42 ∷ 0x42 ∷ 0x03 ∷ 0x00 ∷ 0x00 ∷ []

-- how many bytes the two messages have, LLC included
abbrev pub config_length : ℕ
config_length = 38

abbrev pub tcn_length : ℕ
tcn_length = 7

-- the types of the two messages
abbrev pub config_type : ℕ
config_type = 0x00

abbrev pub tcn_type : ℕ
tcn_type = 0x80

-- Whether the frame is for the spanning tree, untagged, as long as its length says, and carries the protocol. A length
-- above 1500 is a type: a tagged frame has one.
abbrev pub carries_bpdu : List ℕ → Bool
carries_bpdu bytes =
    number_at bytes 0 6 == bridge_group_address
    && (nat_le tcn_length (number_at bytes length_at 2) && (nat_le (number_at bytes length_at 2) 1500
    && (nat_le (14 + number_at bytes length_at 2) (length bytes) && pointwise (λ x y. x == y) (take 5 (drop 14 bytes)) llc_and_protocol)))

-- the fields of a configuration message (9.3.1)
abbrev pub config_at : List ℕ → BpduMsg
config_at bytes =
    Config
    (number_at bytes 21 1)
    (number_at bytes 22 8)
    (number_at bytes 30 4)
    (number_at bytes 34 8)
    (number_at bytes 42 2)
    (number_at bytes 44 2)
    (number_at bytes 46 2)
    (number_at bytes 48 2)
    (number_at bytes 50 2)

-- What the bytes say as a BPDU; nothing where they are none. What follows a message is padding.
abbrev pub bpdu : List ℕ → Option BpduMsg
bpdu bytes =
    if carries_bpdu bytes then (
    if number_at bytes 20 1 == tcn_type then Some Tcn else
    if number_at bytes 20 1 == config_type && nat_le config_length (number_at bytes length_at 2) then Some (config_at bytes) else
    None
    ) else
    None

-- from the version on
abbrev pub payload : BpduMsg → List ℕ
payload (Config flags root cost bridge port age max hello delay) =
    0x00 ∷ config_type ∷ flags ∷ (bytes_high_first 8 root ++ (bytes_high_first 4 cost ++ (bytes_high_first 8 bridge ++ (bytes_high_first 2 port
    ++ (bytes_high_first 2 age ++ (bytes_high_first 2 max ++ (bytes_high_first 2 hello ++ bytes_high_first 2 delay)))))))
payload Tcn = 0x00 ∷ tcn_type ∷ []

abbrev pub length_of : BpduMsg → ℕ
length_of (Config flags root cost bridge port age max hello delay) = config_length
length_of Tcn = tcn_length

-- the least length of an Ethernet frame, without its check sequence
abbrev pub least_length : ℕ
least_length = 60

-- with zeros up to the least length
abbrev pub padded : List ℕ → List ℕ
padded bytes = bytes ++ replicate (least_length - length bytes) 0

-- the frame that carries the message from the bridge of this address
abbrev pub written : ℕ → BpduMsg → List ℕ
written own m =
    padded (bytes_high_first 6 bridge_group_address ++ (bytes_high_first 6 own ++ (bytes_high_first 2 (length_of m) ++ (llc_and_protocol ++ payload m))))
