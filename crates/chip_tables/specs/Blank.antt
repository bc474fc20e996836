-- A row that is all 0 has no key.
use Rattle.std.proofs.Common.{◌≡◌, ℕ, ◌%◌, ◌^◌, ap, ◌∙◌}
use Rattle.std.proofs.Math.Nat.{zero-div, zero-mod}
use Rattle.chip_regs.specs.Rows.{field}
use Rattle.chip_tables.specs.Rows.{key_of}

blank_field : (at w : ℕ) → field 0 at w ≡ 0
unfolding field
blank_field at w = ap (λ x. x % 2 ^ w) (zero-div (2 ^ at)) ∙ zero-mod (2 ^ w)

pub no_key : key_of 0 ≡ 0
no_key = blank_field 0 60
