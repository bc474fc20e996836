-- The crate `hex` writes the definition's digits.
use Rattle.std.proofs.Common.{◌≡◌, ℕ, List, [], ◌∷◌, ◌++◌, length, ◌*◌, Some, None, Result, Ok, Err, refl, ap, ◌∙◌, subst}
use Rattle.std.specs.Prelude.{codes}
use Rattle.std.specs.Result.{MatchResult}
use Rattle.std.specs.Str.{IsUtf8}
use Rattle.std.proofs.lemmas.Str.{IsUtf8-from_ascii, IsUtf8-append}
use Rattle.br_model.specs.Data.Digits.{bytes_from_hex, hex_of}
use Rattle.br_model.proofs.Data.Hex.{given, encode_lower-is, ascii_by_test, sized-given, utf8_by_test}
use Rattle.hex.specs.declared.error.FromHexError.{FromHexError}
use Rattle.hex.specs.Hex.{IsBytes, decode_sized, lower_digits}
use Rattle.hex.proofs.HexLemmas.{IsAscii-encode_with}

-- a line of digits is UTF-8
pub line-utf8 : (bytes : List ℕ) → IsBytes bytes → IsUtf8 (codes "nl " ++ (hex_of bytes ++ 10 ∷ []))
line-utf8 bytes h =
    let digits = IsUtf8-from_ascii _ (IsAscii-encode_with lower_digits bytes (ascii_by_test lower_digits refl)) in
    IsUtf8-append (codes "nl ") _ (utf8_by_test (codes "nl ") refl)
    (IsUtf8-append _ (10 ∷ []) (subst IsUtf8 (encode_lower-is bytes h) digits) (utf8_by_test (10 ∷ []) refl))

-- The crate `hex` reads digits as the definitions say.

pub decoded : (n : ℕ) (text new : List ℕ) (answer : Result Unit FromHexError) → length text ≡ 2 * n
    → MatchResult (decode_sized text n) (λ bytes. (answer ≡ Ok tt) × (new ≡ bytes)) (λ e. answer ≡ Err e) → answer ≡ Ok tt → Some new ≡ bytes_from_hex text
decoded n text new answer h value is = by (decode_sized text n) value ∙ sized-given n text h
  where
    by : (r : Result (List ℕ) FromHexError) → MatchResult r (λ bytes. (answer ≡ Ok tt) × (new ≡ bytes)) (λ e. answer ≡ Err e) → Some new ≡ given r
    by (Ok bytes) v = ap (λ (l : List ℕ). Some l) v.1
    by (Err e) v = absurd (cc)

pub refused : (n : ℕ) (text new : List ℕ) (answer : Result Unit FromHexError) (fault : FromHexError) → length text ≡ 2 * n
    → MatchResult (decode_sized text n) (λ bytes. (answer ≡ Ok tt) × (new ≡ bytes)) (λ e. answer ≡ Err e) → answer ≡ Err fault → None ≡ bytes_from_hex text
refused n text new answer fault h value is = by (decode_sized text n) value ∙ sized-given n text h
  where
    by : (r : Result (List ℕ) FromHexError) → MatchResult r (λ bytes. (answer ≡ Ok tt) × (new ≡ bytes)) (λ e. answer ≡ Err e) → None ≡ given r
    by (Ok bytes) v = let is_ok = v.0 in absurd (cc)
    by (Err e) v = refl
