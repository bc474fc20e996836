-- Group rows as the cells of a map from VLANs and groups, in whose order the numbers of their keys are.
use Rattle.std.specs.Prelude.{ℕ, zero, suc, ◌+◌, ◌*◌, ◌/◌, ◌%◌, ◌^◌, List, map, bit_xor}
use Rattle.std.specs.declared.option.Option.{Option}
use Rattle.br_model.specs.declared.group.Group.{Group}
use Rattle.br_model.specs.declared.group.Group.TheVariants.{V4, V6}
use Rattle.br_model.specs.Table.GroupPairs.{GroupPair}
use Rattle.chip_regs.specs.Rows.{field}
use Rattle.open_addressing.specs.Hashed.{mix}
use Rattle.open_addressing.specs.Zipped.{cells_of}
use Rattle.chip_tables.specs.declared.rows.FanRow.{FanRow}
use Rattle.chip_tables.specs.Rows.{fan_of}

-- The number of a key is its VLAN, its version and its address, from the highest bit to the lowest.

abbrev pub version_bit : Group → ℕ
version_bit (V4 n) = 0
version_bit (V6 n) = 1

abbrev pub address_bits : Group → ℕ
address_bits (V4 n) = n
address_bits (V6 n) = n

unfoldable pub numbered : ℕ → ℕ → ℕ
numbered head bits = head * 2 ^ 128 + bits

abbrev pub head_of : GroupPair → ℕ
head_of k = k.0 * 2 + version_bit k.1

abbrev pub number_of : GroupPair → ℕ
number_of k = numbered (head_of k) (address_bits k.1)

abbrev pub group_from : ℕ → ℕ → Group
group_from zero bits = V4 bits
group_from (suc n) bits = V6 bits

unfoldable pub pair_from : ℕ → GroupPair
pair_from n = (n / 2 ^ 128 / 2, group_from (n / 2 ^ 128 % 2) (n % 2 ^ 128))

-- the entries by VLAN and group
abbrev pub by_group : List (ℕ × FanRow) → List (GroupPair × FanRow)
by_group es = map (λ e. (pair_from e.0, e.1)) es

-- as its key row has it
abbrev pub head_in : ℕ → ℕ
head_in row = field row 0 12 * 2 + field row 12 1

abbrev pub bits_in : ℕ → ℕ
bits_in row = field row 14 64 * 2 ^ 64 + field row 78 64

abbrev pub group_key_of : ℕ → ℕ
group_key_of row = numbered (head_in row) (bits_in row)

abbrev pub group_cells : List ℕ → List ℕ → List (Option (ℕ × FanRow))
group_cells keys rows = cells_of (map group_key_of keys) (map fan_of rows)

-- a hash of the number: both halves of the address and the VLAN have a part
abbrev pub folded : ℕ → ℕ → ℕ
folded head bits = bit_xor (bit_xor (bits % 2 ^ 64) (bits / 2 ^ 64)) (head * 0x9e3779b97f4a7c15 % 2 ^ 64)

unfoldable pub group_hash : ℕ → ℕ
group_hash n = mix (folded (n / 2 ^ 128) (n % 2 ^ 128))
