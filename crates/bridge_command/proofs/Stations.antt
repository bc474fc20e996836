-- The address of a station, digit by digit.
use Rattle.std.proofs.Common.{◌≡◌, ℕ, List, true, length, refl, ap, ◌∙◌, Option}
use Rattle.br_model.specs.Data.Digits.{bytes_from_hex}
use Rattle.br_model.specs.Text.Words.{Word}
use Rattle.br_model.specs.Text.Operands.{mac, has_colons, twelve, station_of}

whole : (w : Word) → length w ≡ 17 → has_colons w ≡ true → station_of (bytes_from_hex (twelve w)) ≡ mac w
unfolding mac
whole w a b = rw (a, b) refl

pub read_as : (word text digits : List ℕ) (parsed : Option (List ℕ)) → text ≡ word → length text ≡ 17 → has_colons text ≡ true → digits ≡ twelve text → parsed ≡ bytes_from_hex digits
    → station_of parsed ≡ mac word
read_as word text digits parsed same long colons are is = ap station_of (is ∙ ap bytes_from_hex are) ∙ whole text long colons ∙ ap mac same
