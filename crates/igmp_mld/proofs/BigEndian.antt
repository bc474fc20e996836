-- A number that is read from bytes, the highest first, is the number that they spell.
use Rattle.std.proofs.Common.{◌≡◌, ℕ, zero, suc, ◌+◌, ◌*◌, ◌^◌, ◌-◌, ◌≤◌, List, length, take, drop, get_or, sym, ap, ◌∙◌, arith}
use Rattle.std.proofs.Math.Nat.{pow-suc}
use Rattle.std.proofs.Math.Seq.{drop-cons}
use Rattle.std.proofs.lemmas.List.{take_all, length-drop}
use Rattle.std.specs.List.{fold}
use Rattle.br_model.specs.Wire.Frames.{number_at}
use Rattle.br_model.specs.Data.Numbers.{number}
use Rattle.byteorder.specs.Endian.{big_from, big_number}

-- the number of these bytes behind a number
abbrev spelled : ℕ → List ℕ → ℕ
spelled start bytes = fold (λ n byte. 256 * n + byte) start bytes

shifted : (a x p q b : ℕ) → q ≡ p * 256 → (256 * a + x) * p + b ≡ a * q + (x * p + b)
shifted a x p q b e = rw e (grind arith)

spelled-is : (n i start : ℕ) (bytes : List ℕ) → i + n ≤ length bytes → spelled start (take n (drop i bytes)) ≡ start * 256 ^ n + big_from i n bytes
spelled-is zero i start bytes within = omega arith
spelled-is (suc n) i start bytes within =
    let first = get_or bytes i 0 in
    ap (λ l. spelled start (take (suc n) l)) (drop-cons bytes i 0 (omega (arith, within)))
    ∙ spelled-is n (suc i) (256 * start + first) bytes (omega (arith, within))
    ∙ shifted start first (256 ^ n) (256 ^ suc n) (big_from (suc i) n bytes) (pow-suc 256 n)

number-is : (n : ℕ) (bytes : List ℕ) → n ≤ length bytes → number (take n bytes) ≡ big_number n bytes
number-is n bytes within = spelled-is n 0 0 bytes (omega (arith, within)) ∙ omega arith

pub number_at_read : (n at x : ℕ) (bytes : List ℕ) → at + n ≤ length bytes → x ≡ big_number n (take (length bytes - at) (drop at bytes)) → x ≡ number_at bytes at n
number_at_read n at x bytes within is =
    let rest = drop at bytes in
    let whole : take (length bytes - at) rest ≡ rest = take_all _ _ (omega (arith, length-drop at bytes)) in
    is ∙ ap (λ l. big_number n l) whole ∙ sym (number-is n rest (omega (arith, length-drop at bytes, within)))
