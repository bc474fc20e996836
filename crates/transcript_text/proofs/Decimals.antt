-- The text of a number: how long it is, and how it ends a line.
use Rattle.std.proofs.Common.{◌≡◌, ℕ, ◌+◌, ◌^◌, ◌<◌, ◌≤◌, List, length, drop, lit<, ap, arith}
use Rattle.std.proofs.lemmas.Fmt.{length-decimal-le, IsAscii-decimal}
use Rattle.std.proofs.lemmas.List.{length-drop}
use Rattle.std.proofs.lemmas.Str.{IsUtf8-from_ascii}
use Rattle.std.specs.Fmt.{decimal}
use Rattle.std.specs.Str.{IsUtf8}

pub decimal_short : (n : ℕ) → n < 2 ^ 32 → length (decimal n) ≤ 10
decimal_short n small =
    let ten : n < 10 ^ 10 = omega arith in
    let fits : n < 2 ^ 64 = omega arith in
    length-decimal-le 10 n (lit< tt) ten fits

pub decimal_utf8 : (n : ℕ) → n < 2 ^ 64 → IsUtf8 (decimal n)
decimal_utf8 n fits = IsUtf8-from_ascii _ (IsAscii-decimal n fits)

-- it finds room before what stands at the end of 64 bytes
pub room : (n from : ℕ) (bytes view : List ℕ) → n < 2 ^ 32 → length bytes ≡ 64 → from ≤ 64 → drop from bytes ≡ view → 10 + length view ≤ 64 → length (decimal n) ≤ from
room n from bytes view small whole within is fits = omega (arith, decimal_short n small, length-drop from bytes, ap length is, whole, within, fits)
