-- One bit of a row, read and written.
use Rattle.std.proofs.Common.{◌≡◌, ℕ, ◌+◌, ◌-◌, ◌*◌, ◌/◌, ◌%◌, ◌^◌, ◌<◌, ◌≤◌, Bool, true, false, cond}
use Rattle.std.proofs.Common.{List, length, get_or, set, inl, inr, bit_or, bit_and, w8, refl, sym, ap, subst, ◌∙◌, arith}
use Rattle.std.specs.Prelude.{◌==◌}
use Rattle.std.specs.Int.{bit_at, bit_not}
use Rattle.std.proofs.lemmas.Nat.{and_le_l, shr-shr}
use Rattle.std.proofs.lemmas.Nat.Bits.{bit_at_set_same, bit_at_set_other, bit_at_clear_same, bit_at_clear_other, same_from_bits, same_from_bits_below}
use Rattle.std.proofs.lemmas.Bool.{eq-eqb, ne_eqb, cases_lt}
use Rattle.std.proofs.lemmas.Bool.Decides.{eqb_tells}
use Rattle.std.proofs.lemmas.List.{length-set}
use Rattle.std.proofs.lemmas.List.Elements.{All-set}
use Rattle.chip_regs.specs.Rows.{number, field, with_field, bit_of, AreBytes}
use Rattle.chip_regs.proofs.Numbers.{Bytes, byte_is, number-set, window-field, with_field-lt, get_is, set_is}
use Rattle.chip_regs.proofs.Fields.{field-same, field-before, field-behind}

bit-small : (on : Bool) → bit_of on < 2
bit-small true = omega arith
bit-small false = omega arith

bit-tells : (on : Bool) → (bit_of on == 1) ≡ on
bit-tells true = refl
bit-tells false = refl

-- each bit after one was written
bit-number : (row at q : ℕ) (on : Bool) → field (with_field row at 1 (bit_of on)) q 1 ≡ cond (q == at) (bit_of on) (field row q 1)
bit-number row at q on = elim (cases_lt q at) [
  | inl low ↦ field-before row at 1 (bit_of on) q 1 (omega arith) ∙ sym (ap (λ b. cond b (bit_of on) (field row q 1)) (ne_eqb q at (omega arith)))
  | inr high ↦ elim (cases_lt at q) [
    | inl above ↦ field-behind row at 1 (bit_of on) q 1 (bit-small on) (omega arith) ∙ sym (ap (λ b. cond b (bit_of on) (field row q 1)) (ne_eqb q at (omega arith)))
    | inr below ↦
        let same : q ≡ at = omega arith in
        ap (λ k. field (with_field row at 1 (bit_of on)) k 1) same
        ∙ field-same row at 1 (bit_of on) (bit-small on)
        ∙ sym (ap (λ b. cond b (bit_of on) (field row q 1)) (eq-eqb q at same))
  ]
]

pub bit-written : (row at q : ℕ) (on : Bool) → (field (with_field row at 1 (bit_of on)) q 1 == 1) ≡ cond (q == at) on (field row q 1 == 1)
bit-written row at q on = ap (λ n. n == 1) (bit-number row at q on) ∙ by (q == at)
  where
    by : (b : Bool) → (cond b (bit_of on) (field row q 1) == 1) ≡ cond b on (field row q 1 == 1)
    by true = bit-tells on
    by false = refl

-- ---- bytes

pub bit_is : (n i : ℕ) → bit_at n i ≡ field n i 1
unfolding field
bit_is n i = refl

-- a bit of a byte after one was written
after : (b at i : ℕ) (on same : Bool) → (i == at) ≡ same → bit_at (with_field b at 1 (bit_of on)) i ≡ cond same (bit_of on) (bit_at b i)
after b at i on same is =
    bit_is (with_field b at 1 (bit_of on)) i
    ∙ bit-number b at i on
    ∙ ap (λ c. cond c (bit_of on) (field b i 1)) is
    ∙ ap (λ n. cond same (bit_of on) n) (sym (bit_is b i))

pub bit-set : (b at : ℕ) → at < 8 → bit_or b (1 * 2 ^ at % 2 ^ 8) ≡ with_field b at 1 1
bit-set b at low = same_from_bits (bit_or b (1 * 2 ^ at % 2 ^ 8)) (with_field b at 1 1) (λ i. elim (eqb_tells i at) [
  | inl e ↦ ap (bit_at (bit_or b (1 * 2 ^ at % 2 ^ 8))) e.1 ∙ bit_at_set_same w8 b at low ∙ sym (after b at i true true e.0)
  | inr e ↦ bit_at_set_other w8 b at low i e.1 ∙ sym (after b at i true false e.0)
])

-- a byte stays one
byte-fits : (b at v : ℕ) → b < 256 → at < 8 → v < 2 → with_field b at 1 v < 256
byte-fits b at v small low bit =
    let whole : 8 ≡ (7 - at) + (at + 1) = omega arith in
    subst (λ k. with_field b at 1 v < 2 ^ k) (sym whole) (with_field-lt b at 1 v (7 - at) (subst (λ k. b < 2 ^ k) whole small) bit)

pub bit-cleared : (b at : ℕ) → at < 8 → b < 256 → bit_and b (bit_not w8 (1 * 2 ^ at % 2 ^ 8)) ≡ with_field b at 1 0
bit-cleared b at low small =
    same_from_bits_below 8 (bit_and b (bit_not w8 (1 * 2 ^ at % 2 ^ 8))) (with_field b at 1 0)
    (omega (arith, and_le_l b (bit_not w8 (1 * 2 ^ at % 2 ^ 8)))) (byte-fits b at 0 small low (omega arith))
    (λ i within. elim (eqb_tells i at) [
      | inl e ↦ ap (bit_at (bit_and b (bit_not w8 (1 * 2 ^ at % 2 ^ 8)))) e.1 ∙ bit_at_clear_same w8 b at low ∙ sym (after b at i false true e.0)
      | inr e ↦ bit_at_clear_other w8 b at low i within e.1 ∙ sym (after b at i false false e.0)
    ])

-- the bit of a row in its byte
pub bit-in_byte : (bs : List ℕ) (row at : ℕ) → Bytes bs → number bs ≡ row → at / 8 < length bs → bit_at (get_or bs (at / 8) 0) (at % 8) ≡ field row at 1
bit-in_byte bs row at are is within =
    let fits : at % 8 + 1 ≤ 8 = omega arith in
    ap (λ n. bit_at n (at % 8)) (byte_is bs (at / 8) 0 are within ∙ ap (λ n. n / 2 ^ (8 * (at / 8)) % 2 ^ 8) is) ∙ get_is row at 1 8 (at % 8) refl fits

-- one bit of a byte is written into the row
pub row-bit_set : (bs : List ℕ) (row at v byte : ℕ) → Bytes bs → number bs ≡ row → at / 8 < length bs → byte ≡ with_field (get_or bs (at / 8) 0) (at % 8) 1 v
    → number (set bs (at / 8) byte) ≡ with_field row at 1 v
row-bit_set bs row at v byte are is within made =
    let fits : at % 8 + 1 ≤ 8 = omega arith in
    let old : get_or bs (at / 8) 0 ≡ row / 2 ^ (8 * (at / 8)) % 2 ^ 8 = byte_is bs (at / 8) 0 are within ∙ ap (λ n. n / 2 ^ (8 * (at / 8)) % 2 ^ 8) is in
    number-set bs (at / 8) byte are within
    ∙ (λ t. with_field (is t) (8 * (at / 8)) 8 ((made ∙ ap (λ n. with_field n (at % 8) 1 v) old) t))
    ∙ set_is row at 1 8 (at % 8) v refl fits

-- the bytes are bytes after that
pub bit-keeps : (k : ℕ) (bs : List ℕ) (at : ℕ) (on : Bool) (byte : ℕ) → AreBytes k bs → at / 8 < length bs → byte ≡ with_field (get_or bs (at / 8) 0) (at % 8) 1 (bit_of on)
    → AreBytes k (set bs (at / 8) byte)
bit-keeps k bs at on byte are within made =
    let small : byte < 256 = subst (λ n. n < 256) (sym made) (byte-fits (get_or bs (at / 8) 0) (at % 8) (bit_of on) (are.1 (at / 8) 0 within) (omega arith) (bit-small on)) in
    (length-set bs (at / 8) byte ∙ are.0, All-set (λ x. x < 256) bs (at / 8) byte small are.1)

-- ---- fields

-- a bit of a field
pub field-bit : (row at w i : ℕ) → i < w → bit_at (field row at w) i ≡ field row (at + i) 1
unfolding field
field-bit row at w i low =
    let d : ℕ = w - 1 - i in
    let whole : w ≡ d + 1 + i = omega arith in
    ap (λ k. row / 2 ^ at % 2 ^ k / 2 ^ i % 2) whole ∙ window-field (row / 2 ^ at) i 1 d ∙ ap (λ n. n % 2 ^ 1) (shr-shr row at i)
