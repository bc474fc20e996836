-- The crate `hex` writes and reads the definition's digits.
use Rattle.std.proofs.Common.{◌≡◌, ℕ, zero, suc, ◌+◌, ◌*◌, ◌/◌, ◌%◌, ◌<◌, ◌==◌, Bool, true, false, if◌then◌else◌, ◌&&◌, inl, inr}
use Rattle.std.proofs.Common.{List, [], ◌∷◌, length, slice_index, Option, Some, None, Result, Ok, Err, refl, sym, ap, ◌∙◌, arith}
use Rattle.std.specs.Char.{is_ascii}
use Rattle.std.specs.Cmp.{first_so, second_so}
use Rattle.std.specs.List.{list_all}
use Rattle.std.specs.Str.{IsAscii, IsUtf8}
use Rattle.std.proofs.lemmas.Bool.{and_parts, cases_lt, eqb-true}
use Rattle.std.proofs.lemmas.Str.{IsUtf8-from_ascii}
use Rattle.std.proofs.lemmas.Str.Ascii.{IsAscii-cons, IsAscii-nil}
use Rattle.hex.specs.declared.error.FromHexError.{FromHexError}
use Rattle.hex.specs.declared.error.FromHexError.TheVariants.{OddLength}
use Rattle.hex.specs.Hex.{IsBytes, ◌>>=◌, decode_pairs, decode_of, decode_sized, digit_or_error, encode_lower, encode_with, hex_digit_value, lower_digits}
use Rattle.hex.proofs.HexLemmas.{decode_sized-twice}
use Rattle.br_model.specs.Data.Digits.{byte_of, bytes_from_hex, hex_digit, hex_of, in_front, nibble}

-- ---- writing

pub length-hex_of : (bytes : List ℕ) → length (hex_of bytes) ≡ 2 * length bytes
length-hex_of [] = refl
length-hex_of (b ∷ bytes) = omega (arith, length-hex_of bytes)

abbrev same_below : ℕ → Bool
same_below zero = true
same_below (suc n) = (slice_index lower_digits n == hex_digit n) && same_below n

same_at : (n k : ℕ) → same_below n ≡ true → k < n → slice_index lower_digits k ≡ hex_digit k
same_at zero k h below = absurd (omega arith)
same_at (suc n) k h below =
    let parts = and_parts (slice_index lower_digits n == hex_digit n) (same_below n) h in
    elim (cases_lt k n) [
      | inl less ↦ same_at n k parts.1 less
      | inr top ↦
          let e : k ≡ n = omega arith in
          rw e (eqb-true _ _ parts.0)
    ]

digit : (n : ℕ) → n < 16 → slice_index lower_digits n ≡ hex_digit n
digit n below = same_at 16 n refl below

pub encode_lower-is : (bytes : List ℕ) → IsBytes bytes → encode_lower bytes ≡ hex_of bytes
unfolding encode_with
encode_lower-is [] h = refl
encode_lower-is (b ∷ bytes) h =
    let fits : b < 256 = h 0 in
    let high : b / 16 < 16 = omega arith in
    let low : b % 16 < 16 = omega arith in
    ap (λ (d : ℕ). d ∷ slice_index lower_digits (b % 16) ∷ encode_lower bytes) (digit (b / 16) high)
    ∙ ap (λ (d : ℕ). hex_digit (b / 16) ∷ d ∷ encode_lower bytes) (digit (b % 16) low)
    ∙ ap (λ (text : List ℕ). hex_digit (b / 16) ∷ hex_digit (b % 16) ∷ text) (encode_lower-is bytes (λ k. h (suc k)))

-- ---- bytes below 128, by a test

pub ascii_by_test : (bytes : List ℕ) → list_all is_ascii bytes ≡ true → IsAscii bytes
ascii_by_test [] h = IsAscii-nil
ascii_by_test (b ∷ bytes) h = IsAscii-cons b bytes (below b (first_so _ _ h)) (ascii_by_test bytes (second_so _ _ h))
  where
    below : (b : ℕ) → is_ascii b ≡ true → b < 128
    below b h = grind arith

pub utf8_by_test : (bytes : List ℕ) → list_all is_ascii bytes ≡ true → IsUtf8 bytes
utf8_by_test bytes h = IsUtf8-from_ascii bytes (ascii_by_test bytes h)

-- ---- reading

abbrev pub given : {A : Type 0} → Result A FromHexError → Option A
given (Ok x) = Some x
given (Err e) = None

nibble-is : (c : ℕ) → hex_digit_value c ≡ nibble c
nibble-is c = grind arith

step : (high low : Option ℕ) (h l i : ℕ) (rest : Result (List ℕ) FromHexError)
    → given ((digit_or_error h i high >>= λ (x : ℕ). (digit_or_error l (i + 1) low >>= λ (y : ℕ). Ok (x * 16 + y))) >>= λ (byte : ℕ). (rest >>= λ (bytes : List ℕ). Ok (byte ∷ bytes)))
    ≡ in_front (byte_of high low) (given rest)
step None low h l i rest = refl
step (Some x) None h l i rest = refl
step (Some x) (Some y) h l i (Err e) = refl
step (Some x) (Some y) h l i (Ok bytes) = let e : x * 16 + y ≡ 16 * x + y = omega arith in ap (λ (n : ℕ). Some (n ∷ bytes)) e

pub pairs-given : (i : ℕ) (text : List ℕ) → given (decode_pairs i text) ≡ bytes_from_hex text
unfolding decode_pairs
pairs-given i [] = refl
pairs-given i (c ∷ []) = refl
pairs-given i (c ∷ d ∷ cs) =
    step (hex_digit_value c) (hex_digit_value d) c d i (decode_pairs (i + 2) cs)
    ∙ ap (λ (b : Option (List ℕ)). in_front (byte_of (hex_digit_value c) (hex_digit_value d)) b) (pairs-given (i + 2) cs)
    ∙ ap (λ (a : Option ℕ). in_front (byte_of a (hex_digit_value d)) (bytes_from_hex cs)) (nibble-is c)
    ∙ ap (λ (a : Option ℕ). in_front (byte_of (nibble c) a) (bytes_from_hex cs)) (nibble-is d)

pub front-none : (b : Option ℕ) → in_front b None ≡ None
front-none None = refl
front-none (Some b) = refl

pub odd-none : (text : List ℕ) → length text % 2 ≡ 1 → bytes_from_hex text ≡ None
odd-none [] h = grind arith
odd-none (c ∷ []) h = refl
odd-none (c ∷ d ∷ cs) h =
    let rest : length cs % 2 ≡ 1 = omega arith in
    ap (λ (b : Option (List ℕ)). in_front (byte_of (nibble c) (nibble d)) b) (odd-none cs rest) ∙ front-none (byte_of (nibble c) (nibble d))

at-parity : (odd : Bool) (text : List ℕ) → (length text % 2 == 1) ≡ odd → given (if odd then Err OddLength else decode_pairs 0 text) ≡ bytes_from_hex text
at-parity true text e = let h : length text % 2 ≡ 1 = grind arith in sym (odd-none text h)
at-parity false text e = pairs-given 0 text

-- what `decode` answers, but for memory
pub decode-given : (text : List ℕ) → given (decode_of text) ≡ bytes_from_hex text
decode-given text = at-parity (length text % 2 == 1) text refl

-- what `decode_to_slice` and `from_hex` answer of so many bytes
pub sized-given : (n : ℕ) (text : List ℕ) → length text ≡ 2 * n → given (decode_sized text n) ≡ bytes_from_hex text
sized-given n text h = ap given (decode_sized-twice text n h) ∙ decode-given text
