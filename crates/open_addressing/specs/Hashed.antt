-- The hash of a key, and the slot that it has among 2 ^ bits.
use Rattle.std.specs.Prelude.{ℕ, ◌-◌, ◌*◌, ◌/◌, ◌%◌, ◌^◌, List, slice_index_or, bit_xor}

-- the key in a cell, 0 for none
abbrev pub key_in : {Cell : Type 0} → (Cell → ℕ) → Cell → List Cell → ℕ → ℕ
key_in key empty cells i = key (slice_index_or cells i empty)

-- a hash: a number in whose high bits each bit of the key has a part
unfoldable pub mix : ℕ → ℕ
mix k =
    let a : ℕ = k * 0xff51afd7ed558ccd % 2 ^ 64 in
    bit_xor a (a / 2 ^ 32) * 0xc4ceb9fe1a85ec53 % 2 ^ 64

unfoldable pub home_of : (ℕ → ℕ) → ℕ → ℕ → ℕ
home_of hash bits k = hash k / 2 ^ (64 - bits)
