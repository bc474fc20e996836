-- What is read of a row after a field was written.
use Rattle.std.proofs.Common.{◌≡◌, ℕ, ◌+◌, ◌-◌, ◌*◌, ◌/◌, ◌%◌, ◌^◌, ◌<◌, ◌≤◌, sym, ap, ◌∙◌, arith}
use Rattle.std.proofs.lemmas.Nat.{div-mul-add, mod-mul-add, pow_pos, shr-shr}
use Rattle.std.proofs.Math.Nat.{mod-lt, zero-div, zero-mod}
use Rattle.chip_regs.specs.Rows.{field, with_field}
use Rattle.chip_regs.proofs.Numbers.{window-field}

-- the field itself
pub field-same : (row at w n : ℕ) → n < 2 ^ w → field (with_field row at w n) at w ≡ n
unfolding field with_field
field-same row at w n small =
    ap (λ x. x % 2 ^ w) (div-mul-add (row / 2 ^ (at + w) * 2 ^ w + n) (2 ^ at) (row % 2 ^ at) (mod-lt row (pow_pos at)))
    ∙ mod-mul-add (row / 2 ^ (at + w)) (2 ^ w) n small

field-low : (row a v at : ℕ) → a + v ≤ at → field row a v ≡ field (row % 2 ^ at) a v
unfolding field
field-low row a v at before =
    let d : ℕ = at - (a + v) in
    let whole : d + v + a ≡ at = omega arith in
    sym (ap (λ k. row % 2 ^ k / 2 ^ a % 2 ^ v) (sym whole) ∙ window-field row a v d)

-- a field before it
pub field-before : (row at w n a v : ℕ) → a + v ≤ at → field (with_field row at w n) a v ≡ field row a v
unfolding with_field
field-before row at w n a v before =
    let low : ((row / 2 ^ (at + w) * 2 ^ w + n) * 2 ^ at + row % 2 ^ at) % 2 ^ at ≡ row % 2 ^ at = mod-mul-add (row / 2 ^ (at + w) * 2 ^ w + n) (2 ^ at) (row % 2 ^ at) (mod-lt row (pow_pos at)) in
    field-low (with_field row at w n) a v at before ∙ ap (λ x. field x a v) low ∙ sym (field-low row a v at before)

-- a field behind it
pub field-behind : (row at w n a v : ℕ) → n < 2 ^ w → at + w ≤ a → field (with_field row at w n) a v ≡ field row a v
unfolding field with_field
field-behind row at w n a v small behind =
    let e : ℕ = a - (at + w) in
    let whole : at + (w + e) ≡ a = omega arith in
    let whole' : (at + w) + e ≡ a = omega arith in
    let new : ℕ = (row / 2 ^ (at + w) * 2 ^ w + n) * 2 ^ at + row % 2 ^ at in
    let one : new / 2 ^ at ≡ row / 2 ^ (at + w) * 2 ^ w + n = div-mul-add (row / 2 ^ (at + w) * 2 ^ w + n) (2 ^ at) (row % 2 ^ at) (mod-lt row (pow_pos at)) in
    let two : (row / 2 ^ (at + w) * 2 ^ w + n) / 2 ^ w ≡ row / 2 ^ (at + w) = div-mul-add (row / 2 ^ (at + w)) (2 ^ w) n small in
    ap (λ x. x % 2 ^ v)
    (ap (λ k. new / 2 ^ k) (sym whole) ∙ sym (shr-shr new at (w + e)) ∙ ap (λ x. x / 2 ^ (w + e)) one ∙ sym (shr-shr (row / 2 ^ (at + w) * 2 ^ w + n) w e) ∙ ap (λ x. x / 2 ^ e) two
    ∙ shr-shr row (at + w) e ∙ ap (λ k. row / 2 ^ k) whole')

-- a field is below its bound
pub field-lt : (row at w : ℕ) → field row at w < 2 ^ w
unfolding field
field-lt row at w = mod-lt (row / 2 ^ at) (pow_pos w)

-- the blank row
pub field-zero : (at w : ℕ) → field 0 at w ≡ 0
unfolding field
field-zero at w = ap (λ x. x % 2 ^ w) (zero-div (2 ^ at)) ∙ zero-mod (2 ^ w)
