-- The crate `hex` writes the definition's digits.
use Rattle.std.proofs.Common.{ℕ, List, [], ◌∷◌, refl, ◌++◌, subst}
use Rattle.std.proofs.lemmas.Str.{IsUtf8-from_ascii, IsUtf8-append}
use Rattle.std.specs.Str.{IsAscii, IsUtf8}
use Rattle.br_model.specs.Data.Digits.{hex_of}
use Rattle.br_model.proofs.Data.Hex.{encode_lower-is, ascii_by_test}
use Rattle.hex.specs.Hex.{IsBytes, encode_lower, lower_digits}
use Rattle.hex.proofs.HexLemmas.{IsAscii-encode_with}

digits_ascii : IsAscii lower_digits
digits_ascii = ascii_by_test lower_digits refl

pub encode_lower-IsUtf8 : (bytes : List ℕ) → IsUtf8 (encode_lower bytes)
encode_lower-IsUtf8 bytes = IsUtf8-from_ascii _ (IsAscii-encode_with lower_digits bytes digits_ascii)

-- digits and a line feed are UTF-8
pub end_utf8 : (bytes : List ℕ) → IsBytes bytes → IsUtf8 (hex_of bytes ++ 10 ∷ [])
end_utf8 bytes h = IsUtf8-append _ _ (subst IsUtf8 (encode_lower-is bytes h) (encode_lower-IsUtf8 bytes)) (IsUtf8-from_ascii _ (ascii_by_test (10 ∷ []) refl))

pub space_utf8 : IsUtf8 (32 ∷ [])
space_utf8 = IsUtf8-from_ascii _ (ascii_by_test (32 ∷ []) refl)
