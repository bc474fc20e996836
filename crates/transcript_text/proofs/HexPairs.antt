-- Bytes as digits, by the table of their pairs.
use Rattle.std.proofs.Common.{◌≡◌, ℕ, ◌+◌, ◌*◌, ◌/◌, ◌%◌, ◌<◌, ◌==◌, ◌&&◌, true, List, [], ◌∷◌, ◌++◌, length, take, get_or, set, refl, ap, sym, ◌∙◌, append_assoc, arith}
use Rattle.std.proofs.lemmas.Bool.{agree_below, agree_below_at, and_parts, eqb-true}
use Rattle.std.proofs.lemmas.Grind.{flat_map-append}
use Rattle.std.proofs.lemmas.List.{take_more, take_more_set}
use Rattle.std.proofs.Math.ListN.{length-set}
use Rattle.br_model.specs.Data.Digits.{hex_digit, hex_of}
use Rattle.transcript_text.specs.declared.frames.TheConstants.{PAIRS}

-- the table, at each of its places
agree : agree_below (λ b. (get_or PAIRS (2 * b) 0 == hex_digit (b / 16)) && (get_or PAIRS (2 * b + 1) 0 == hex_digit (b % 16))) (λ b. true) 256 ≡ true
agree = refl

pair_at : (b : ℕ) → b < 256 → (get_or PAIRS (2 * b) 0 ≡ hex_digit (b / 16)) × (get_or PAIRS (2 * b + 1) 0 ≡ hex_digit (b % 16))
pair_at b h =
    let parts = and_parts _ _ (agree_below_at (λ b. (get_or PAIRS (2 * b) 0 == hex_digit (b / 16)) && (get_or PAIRS (2 * b + 1) 0 == hex_digit (b % 16))) (λ b. true) 256 b agree h) in
    (eqb-true _ _ parts.0, eqb-true _ _ parts.1)

-- the digits of the first bytes are written
abbrev pub IsWritten : List ℕ → List ℕ → ℕ → Type 0
IsWritten bytes digits i = take (2 * i) digits ≡ hex_of (take i bytes)

abbrev digits_of : ℕ → List ℕ
digits_of b = hex_digit (b / 16) ∷ hex_digit (b % 16) ∷ []

two_more : (digits : List ℕ) (i x y : ℕ) → 2 * i + 1 < length digits → take (2 * (i + 1)) (set (set digits (2 * i) x) (2 * i + 1) y) ≡ take (2 * i) digits ++ x ∷ y ∷ []
two_more digits i x y h =
    let one : List ℕ = set digits (2 * i) x in
    let next : 2 * (i + 1) ≡ 2 * i + 1 + 1 = omega arith in
    ap (λ n. take n (set one (2 * i + 1) y)) next
    ∙ take_more_set one (2 * i + 1) y (omega (arith, length-set digits (2 * i) x))
    ∙ ap (λ l. l ++ y ∷ []) (take_more_set digits (2 * i) x (omega arith))
    ∙ append_assoc (take (2 * i) digits) (x ∷ []) (y ∷ [])

pub goes_on : (bytes digits : List ℕ) (i pair : ℕ) → i < length bytes → length digits ≡ 2 * length bytes → pair ≡ 2 * get_or bytes i 0 → get_or bytes i 0 < 256 → IsWritten bytes digits i
    → IsWritten bytes (set (set digits (2 * i) (get_or PAIRS pair 0)) (2 * i + 1) (get_or PAIRS (pair + 1) 0)) (i + 1)
goes_on bytes digits i pair within sizes is fits before =
    let b : ℕ = get_or bytes i 0 in
    let table = pair_at b fits in
    let high : get_or PAIRS pair 0 ≡ hex_digit (b / 16) = ap (λ n. get_or PAIRS n 0) is ∙ table.0 in
    let low : get_or PAIRS (pair + 1) 0 ≡ hex_digit (b % 16) = ap (λ n. get_or PAIRS (n + 1) 0) is ∙ table.1 in
    two_more digits i (get_or PAIRS pair 0) (get_or PAIRS (pair + 1) 0) (omega arith)
    ∙ ap (λ l. l ++ get_or PAIRS pair 0 ∷ get_or PAIRS (pair + 1) 0 ∷ []) before
    ∙ (λ j. hex_of (take i bytes) ++ high j ∷ low j ∷ [])
    ∙ sym (ap hex_of (take_more bytes i 0 within) ∙ flat_map-append digits_of (take i bytes) (b ∷ []))
