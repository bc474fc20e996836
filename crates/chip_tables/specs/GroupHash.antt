-- The hash of a group's number has 64 bits.
use Rattle.std.proofs.Common.{ℕ, ◌<◌, ◌/◌, ◌%◌, ◌^◌}
use Rattle.open_addressing.specs.Hashes.{mix-lt}
use Rattle.chip_tables.specs.GroupCells.{folded, group_hash}

pub group_hash-lt : (n : ℕ) → group_hash n < 2 ^ 64
unfolding group_hash
group_hash-lt n = mix-lt (folded (n / 2 ^ 128) (n % 2 ^ 128))
