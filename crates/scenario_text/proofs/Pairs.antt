-- Bytes, pair by pair of their digits.
use Rattle.std.proofs.Common.{◌≡◌, ℕ, suc, ◌+◌, ◌*◌, ◌%◌, ◌<◌, ◌≤◌, ◌==◌, nat_lt, Bool, true, false, List, [], ◌∷◌, ◌++◌, length}
use Rattle.std.proofs.Common.{take, drop, get_or, set, slice_index, Option, Some, None, bit_or, subst, refl, ap, sym, ◌∙◌, add-one, append_assoc, arith}
use Rattle.std.specs.Option.{option_map}
use Rattle.std.proofs.lemmas.Bool.{agree_below, agree_below_at, eqb-true, ltb-true, ltb-false}
use Rattle.std.proofs.lemmas.Nat.{le_or_l, le_or_r, or_lt}
use Rattle.scenario_text.specs.declared.digits.TheConstants.{HIGH, LOW}
use Rattle.std.proofs.Math.Seq.{take-suc-set, drop-cons}
use Rattle.br_model.specs.Data.Digits.{nibble, byte_of, in_front, bytes_from_hex}

-- one digit, by the tables

abbrev high_value : Option ℕ → ℕ
high_value None = 256
high_value (Some x) = 16 * x

abbrev low_value : Option ℕ → ℕ
low_value None = 256
low_value (Some x) = x

agree_high : agree_below (λ c. get_or HIGH c 0 == high_value (nibble c)) (λ c. true) 256 ≡ true
agree_high = refl

agree_low : agree_below (λ c. get_or LOW c 0 == low_value (nibble c)) (λ c. true) 256 ≡ true
agree_low = refl

pub at_high : (c d : ℕ) → c ≡ d → d < 256 → get_or HIGH c 0 ≡ high_value (nibble d)
at_high c d same h =
    ap (λ n. get_or HIGH n 0) same
    ∙ eqb-true (get_or HIGH d 0) (high_value (nibble d)) (agree_below_at (λ c. get_or HIGH c 0 == high_value (nibble c)) (λ c. true) 256 d agree_high h)

pub at_low : (c d : ℕ) → c ≡ d → d < 256 → get_or LOW c 0 ≡ low_value (nibble d)
at_low c d same h =
    ap (λ n. get_or LOW n 0) same
    ∙ eqb-true (get_or LOW d 0) (low_value (nibble d)) (agree_below_at (λ c. get_or LOW c 0 == low_value (nibble c)) (λ c. true) 256 d agree_low h)

-- what two digits spell

nibble_small : (c x : ℕ) → nibble c ≡ Some x → x ≤ 15
nibble_small c x h = grind arith

high_most : (c : ℕ) → high_value (nibble c) ≤ 256
high_most c = by (nibble c) refl
  where
    by : (o : Option ℕ) → nibble c ≡ o → high_value o ≤ 256
    by None e = omega arith
    by (Some x) e = omega (arith, nibble_small c x e)

low_most : (c : ℕ) → low_value (nibble c) ≤ 256
low_most c = by (nibble c) refl
  where
    by : (o : Option ℕ) → nibble c ≡ o → low_value o ≤ 256
    by None e = omega arith
    by (Some x) e = omega (arith, nibble_small c x e)

pub sum_fits : (c d h l : ℕ) → h ≡ high_value (nibble c) → l ≡ low_value (nibble d) → h + l ≤ 512
sum_fits c d h l high low = omega (arith, high_most c, low_most d)

pub spelled : (c d h l : ℕ) → h ≡ high_value (nibble c) → l ≡ low_value (nibble d) → h + l < 256 → byte_of (nibble c) (nibble d) ≡ Some (h + l)
spelled c d h l high low small = by (nibble c) (nibble d) high low
  where
    by : (o p : Option ℕ) → h ≡ high_value o → l ≡ low_value p → byte_of o p ≡ Some (h + l)
    by None p i j = absurd (omega arith)
    by (Some x) None i j = absurd (omega arith)
    by (Some x) (Some y) i j = λ k. Some (sym i k + sym j k)

pub not_spelled : (c d h l : ℕ) → h ≡ high_value (nibble c) → l ≡ low_value (nibble d) → 256 ≤ h + l → byte_of (nibble c) (nibble d) ≡ None
not_spelled c d h l high low large = by (nibble c) (nibble d) refl refl high low
  where
    by : (o p : Option ℕ) → nibble c ≡ o → nibble d ≡ p → h ≡ high_value o → l ≡ low_value p → byte_of o p ≡ None
    by None p e f i j = refl
    by (Some x) None e f i j = refl
    by (Some x) (Some y) e f i j = absurd (omega (arith, nibble_small c x e, nibble_small d y f))

-- a pair

some_front : (x : ℕ) (rest : Option (List ℕ)) → in_front (Some x) rest ≡ option_map (λ bytes. x ∷ bytes) rest
some_front x None = refl
some_front x (Some bytes) = refl

-- the digits after some bytes
pair_at : (digits : List ℕ) (i : ℕ) → 2 * i + 1 < length digits
    → bytes_from_hex (drop (2 * i) digits)
    ≡ in_front (byte_of (nibble (slice_index digits (2 * i))) (nibble (slice_index digits (2 * i + 1)))) (bytes_from_hex (drop (2 * (i + 1)) digits))
pair_at digits i h =
    let low : suc (2 * i) ≡ 2 * i + 1 = omega arith in
    let next : suc (suc (2 * i)) ≡ 2 * (i + 1) = omega arith in
    ap bytes_from_hex (drop-cons digits (2 * i) 0 (omega arith) ∙ ap (λ ds. slice_index digits (2 * i) ∷ ds) (drop-cons digits (suc (2 * i)) 0 (omega arith)))
    ∙ (λ j. in_front (byte_of (nibble (slice_index digits (2 * i))) (nibble (slice_index digits (low j)))) (bytes_from_hex (drop (next j) digits)))

-- the bytes that are written, and those that are still to be read
abbrev pub IsWritten : List ℕ → List ℕ → ℕ → Type 0
IsWritten digits out i = bytes_from_hex digits ≡ option_map (λ rest. take i out ++ rest) (bytes_from_hex (drop (2 * i) digits))

pub begins : (digits out : List ℕ) → IsWritten digits out 0
begins digits out = by (bytes_from_hex digits)
  where
    by : (o : Option (List ℕ)) → o ≡ option_map (λ rest. rest) o
    by None = refl
    by (Some bytes) = refl

-- a byte more
one_more : (digits out : List ℕ) (i byte : ℕ) → length digits ≡ 2 * length out → i < length out → byte_of (nibble (slice_index digits (2 * i))) (nibble (slice_index digits (2 * i + 1))) ≡ Some byte
    → IsWritten digits out i → IsWritten digits (set out i byte) (i + 1)
one_more digits out i byte sizes within spells before =
    before
    ∙ ap (option_map (λ rest. take i out ++ rest))
    (pair_at digits i (omega arith)
    ∙ ap (λ b. in_front b (bytes_from_hex (drop (2 * (i + 1)) digits))) spells
    ∙ some_front byte (bytes_from_hex (drop (2 * (i + 1)) digits)))
    ∙ by (bytes_from_hex (drop (2 * (i + 1)) digits))
    ∙ ap (λ front. option_map (λ rest. front ++ rest) (bytes_from_hex (drop (2 * (i + 1)) digits)))
    (sym (take-suc-set out i byte within) ∙ ap (λ n. take n (set out i byte)) (sym (add-one i)))
  where
    by : (o : Option (List ℕ)) → option_map (λ rest. take i out ++ rest) (option_map (λ bytes. byte ∷ bytes) o) ≡ option_map (λ rest. (take i out ++ byte ∷ []) ++ rest) o
    by None = refl
    by (Some bytes) = ap Some (sym (append_assoc (take i out) (byte ∷ []) bytes))

-- a pair that is none
none_more : (digits out : List ℕ) (i : ℕ) → length digits ≡ 2 * length out → i < length out → byte_of (nibble (slice_index digits (2 * i))) (nibble (slice_index digits (2 * i + 1))) ≡ None
    → IsWritten digits out i → bytes_from_hex digits ≡ None
none_more digits out i sizes within bad before =
    before
    ∙ ap (option_map (λ rest. take i out ++ rest))
    (pair_at digits i (omega arith) ∙ ap (λ b. in_front b (bytes_from_hex (drop (2 * (i + 1)) digits))) bad)

-- all pairs so far were joined by bits: below 256 each is a byte, else one is none
pub record IsRead (digits out : List ℕ) (i all : ℕ) : Type 0 where
  pub written : all < 256 → IsWritten digits out i
  pub none : 256 ≤ all → bytes_from_hex digits ≡ None

pub none_read : (digits out : List ℕ) → IsRead digits out 0 0
none_read digits out = record { written = λ h. begins digits out; none = λ h. absurd (omega arith) }

pub goes_on : (digits out : List ℕ) (i byte all : ℕ) → length digits ≡ 2 * length out → i < length out
    → (byte < 256 → byte_of (nibble (slice_index digits (2 * i))) (nibble (slice_index digits (2 * i + 1))) ≡ Some byte)
    → (256 ≤ byte → byte_of (nibble (slice_index digits (2 * i))) (nibble (slice_index digits (2 * i + 1))) ≡ None)
    → IsRead digits out i all → IsRead digits (set out i (byte % 256)) (i + 1) (bit_or all byte)
goes_on digits out i byte all sizes within good bad before = record { written = written; none = none }
  where
    written : bit_or all byte < 256 → IsWritten digits (set out i (byte % 256)) (i + 1)
    written small =
        let first : all < 256 = omega (arith, le_or_l all byte) in
        let second : byte < 256 = omega (arith, le_or_r all byte) in
        let same : byte ≡ byte % 256 = omega arith in
        subst (λ (b : ℕ). IsWritten digits (set out i b) (i + 1)) same (one_more digits out i byte sizes within (good second) (before.written first))

    later : all < 256 → 256 ≤ bit_or all byte → (b : Bool) → nat_lt byte 256 ≡ b → bytes_from_hex digits ≡ None
    later first large true is = absurd (omega (arith, or_lt 8 all byte first (ltb-true byte 256 is)))
    later first large false is = none_more digits out i sizes within (bad (ltb-false byte 256 is)) (before.written first)

    either : 256 ≤ bit_or all byte → (b : Bool) → nat_lt all 256 ≡ b → bytes_from_hex digits ≡ None
    either large true is = later (ltb-true all 256 is) large (nat_lt byte 256) refl
    either large false is = before.none (ltb-false all 256 is)

    none : 256 ≤ bit_or all byte → bytes_from_hex digits ≡ None
    none large = either large (nat_lt all 256) refl
