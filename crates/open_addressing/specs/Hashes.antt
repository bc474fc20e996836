-- A hash of 64 bits.
use Rattle.std.proofs.Common.{ℕ, ◌*◌, ◌%◌, ◌^◌, ◌<◌, arith, bit_xor, ◌/◌}
use Rattle.std.proofs.Math.Nat.{mod-lt}
use Rattle.open_addressing.specs.Hashed.{mix}

pub mix-lt : (k : ℕ) → mix k < 2 ^ 64
unfolding mix
mix-lt k =
    let a : ℕ = k * 0xff51afd7ed558ccd % 2 ^ 64 in
    mod-lt (bit_xor a (a / 2 ^ 32) * 0xc4ceb9fe1a85ec53) (omega arith)
