-- The records of a report of IGMPv3 or MLDv2, and what each says.
-- Source: RFC 3376 section 4.2, RFC 3810 section 5.2, RFC 4541 section 2.1.1. Sources aren't told apart: this profile.
use Rattle.std.specs.Prelude.{ℕ, zero, suc, ◌+◌, ◌*◌, ◌==◌, nat_le, Bool, true, false, ◌&&◌, ◌||◌, if◌then◌else◌, List, [], ◌∷◌, length, drop, slice_index}
use Rattle.std.specs.declared.option.Option.{Option}
use Rattle.std.specs.declared.option.Option.TheVariants.{None, Some}
use Rattle.std.specs.Option.{option_map, unwrap_or}
use Rattle.br_model.specs.declared.frame.Act.{Act}
use Rattle.br_model.specs.declared.frame.Act.TheVariants.{Join, Part, Nothing}
use Rattle.br_model.specs.declared.group.Group.{Group}
use Rattle.br_model.specs.declared.group.Group.TheVariants.{V4, V6}
use Rattle.br_model.specs.Wire.Frames.{number_at}
use Rattle.br_model.specs.Data.Numbers.{is_group_four, is_group_six}

-- the length of an address
abbrev pub address_length : Bool → ℕ
address_length six = if six then 16 else 4

-- a multicast address of this version
abbrev pub group_four : ℕ → Option Group
group_four n = if is_group_four n then Some (V4 n) else None

abbrev pub group_six : ℕ → Option Group
group_six n = if is_group_six n then Some (V6 n) else None

-- the group that the address at this place names
abbrev pub group_at : Bool → List ℕ → ℕ → Option Group
group_at six bytes i = if six then group_six (number_at bytes i 16) else group_four (number_at bytes i 4)

-- Of bytes that begin with a record:

abbrev pub record_type : List ℕ → ℕ
record_type bytes = slice_index bytes 0

-- in words of 32 bits
abbrev pub auxiliary_length : List ℕ → ℕ
auxiliary_length bytes = slice_index bytes 1

abbrev pub source_count : List ℕ → ℕ
source_count bytes = number_at bytes 2 2

abbrev pub record_length : Bool → List ℕ → ℕ
record_length six bytes = 4 + address_length six + address_length six * source_count bytes + 4 * auxiliary_length bytes

-- its four first bytes, its group, its sources and its auxiliary words are all there
abbrev pub record_fits : Bool → List ℕ → Bool
record_fits six bytes = nat_le (4 + address_length six) (length bytes) && nat_le (record_length six bytes) (length bytes)

-- what follows a record that fits
abbrev pub after_record : Bool → List ℕ → Option (List ℕ)
after_record six bytes = if record_fits six bytes then Some (drop (record_length six bytes) bytes) else None

-- whether so many records fit, one behind another; more bytes may follow
abbrev pub records_fit : Bool → ℕ → List ℕ → Bool
records_fit six zero bytes = true
records_fit six (suc n) bytes = unwrap_or (option_map (λ rest. records_fit six n rest) (after_record six bytes)) false

-- the mode becomes, or is, to include just these sources
abbrev pub is_include : ℕ → Bool
is_include kind = kind == 1 || kind == 3

-- the mode becomes, or is, to exclude these sources, or sources are allowed
abbrev pub is_open : ℕ → Bool
is_open kind = kind == 2 || (kind == 4 || kind == 5)

-- No source is wanted: this leaves. Some sources are, or all but some: this joins.
abbrev pub act_on : ℕ → ℕ → Option Group → Act
act_on kind sources None = Nothing
act_on kind sources (Some group) =
    if is_include kind then (if sources == 0 then Part group else Join group) else
    if is_open kind then Join group else
    Nothing

abbrev pub act_of : Bool → List ℕ → Act
act_of six bytes = act_on (record_type bytes) (source_count bytes) (group_at six bytes 4)

-- what so many records say, one behind another
abbrev pub acts_of : Bool → ℕ → List ℕ → List Act
acts_of six zero bytes = []
acts_of six (suc n) bytes = act_of six bytes ∷ acts_of six n (drop (record_length six bytes) bytes)

-- the same of the records from this byte of the frame on
abbrev pub acts : List ℕ → Bool → ℕ → ℕ → List Act
acts bytes six first count = acts_of six count (drop first bytes)
