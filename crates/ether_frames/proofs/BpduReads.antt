-- A number that is read from bytes is the number that they spell.
use Rattle.std.proofs.Common.{◌≡◌, ℕ, zero, suc, ◌+◌, ◌-◌, ◌*◌, ◌^◌, ◌<◌, ◌≤◌, List, length, take, drop, get_or, sym, ap, ◌∙◌, arith}
use Rattle.std.proofs.Math.Nat.{pow-succ'}
use Rattle.std.proofs.Math.Seq.{drop-cons}
use Rattle.std.proofs.lemmas.List.{length-drop}
use Rattle.std.proofs.lemmas.Slice.{between_to_end}
use Rattle.std.specs.List.{fold}
use Rattle.lemmas.proofs.Numbers.{bytes_collect}
use Rattle.br_model.specs.Data.Numbers.{number}
use Rattle.byteorder.specs.Endian.{big_from}

zero_times : (p r : ℕ) → 0 * p + r ≡ r
zero_times p r = omega arith

-- the number of n bytes from place j, behind a
spelled : (n j a : ℕ) (ys : List ℕ) → j + n ≤ length ys → fold (λ m byte. 256 * m + byte) a (take n (drop j ys)) ≡ a * 256 ^ n + big_from j n ys
spelled zero j a ys h = omega arith
spelled (suc n) j a ys h =
    ap (λ (zs : List ℕ). fold (λ m byte. 256 * m + byte) a (take (suc n) zs)) (drop-cons ys j 0 (omega arith))
    ∙ spelled n (suc j) (256 * a + get_or ys j 0) ys (omega arith)
    ∙ bytes_collect a (get_or ys j 0) (256 ^ n) (big_from (suc j) n ys)
    ∙ ap (λ (p : ℕ). a * p + (get_or ys j 0 * 256 ^ n + big_from (suc j) n ys)) (sym (pow-succ' 256 n))

pub read-at : (n i : ℕ) (xs : List ℕ) → i + n ≤ length xs → big_from 0 n (take (length xs - i) (drop i xs)) ≡ number (take n (drop i xs))
read-at n i xs h =
    let whole : take (length xs - i) (drop i xs) ≡ drop i xs = between_to_end xs i (length xs) (omega arith) in
    let size : length (drop i xs) ≡ length xs - i = length-drop i xs in
    ap (λ (ys : List ℕ). big_from 0 n ys) whole ∙ sym (spelled n 0 0 (drop i xs) (omega arith) ∙ zero_times (256 ^ n) (big_from 0 n (drop i xs)))

-- and the one byte at place i
pub byte-at : (i : ℕ) (xs : List ℕ) → i < length xs → get_or xs i 0 ≡ number (take 1 (drop i xs))
byte-at i xs h = sym (ap (λ (ys : List ℕ). number (take 1 ys)) (drop-cons xs i 0 h) ∙ alone (get_or xs i 0))
  where
    alone : (x : ℕ) → 256 * 0 + x ≡ x
    alone x = omega arith
