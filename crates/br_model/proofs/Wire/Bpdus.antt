-- A frame that carries a message says that message.
use Rattle.std.proofs.Common.{◌≡◌, ℕ, zero, suc, ◌+◌, ◌*◌, ◌/◌, ◌%◌, ◌^◌, ◌<◌, [], ◌∷◌, Some, refl, sym, ap, ◌∙◌, arith}
use Rattle.std.proofs.Math.Nat.{div-one, mod-eq_of_lt, one-le-pow, pow-succ'}
use Rattle.std.specs.Int.{byte_at, bytes_high_first}
use Rattle.std.specs.List.{fold}
use Rattle.std.proofs.Math.Arith.{mod-mul as mod-split}
use Rattle.lemmas.proofs.Numbers.{bytes_collect}
use Rattle.br_model.specs.declared.bpdu.BpduMsg.{BpduMsg}
use Rattle.br_model.specs.declared.bpdu.BpduMsg.TheVariants.{Config, Tcn}
use Rattle.br_model.specs.Wire.Bpdus.{bpdu, written}
use Rattle.br_model.specs.Data.Numbers.{number}
use Rattle.br_model.specs.Theorems.TreeLaws.{Fits}

byte_at-pow : (k x : ℕ) → byte_at k x ≡ x / 256 ^ k % 256
byte_at-pow zero x = ap (λ (y : ℕ). y % 256) (sym (div-one x))
byte_at-pow (suc k) x = refl

power_above : (n : ℕ) → zero < 256 ^ n
power_above n = let h = one-le-pow n 256 (omega arith) in omega arith

-- the bytes of x behind those of a
spelled_from : (k a x : ℕ) → fold (λ n byte. 256 * n + byte) a (bytes_high_first k x) ≡ a * 256 ^ k + x % 256 ^ k
spelled_from zero a x = omega arith
spelled_from (suc k) a x =
    spelled_from k (256 * a + byte_at k x) x
    ∙ bytes_collect a (byte_at k x) (256 ^ k) (x % 256 ^ k)
    ∙ ap (λ (y : ℕ). a * (256 * 256 ^ k) + (y * 256 ^ k + x % 256 ^ k)) (byte_at-pow k x)
    ∙ ap (λ (y : ℕ). a * (256 * 256 ^ k) + y) (sym (mod-split x {m = 256} {c = 256 ^ k} (omega arith) (power_above k)))
    ∙ ap (λ (y : ℕ). a * y + x % y) (sym (pow-succ' 256 k))

-- a number is spelled by its bytes
pub spelled : (k x : ℕ) → x < 256 ^ k → number (bytes_high_first k x) ≡ x
spelled k x h = spelled_from k 0 x ∙ (let e = mod-eq_of_lt h in omega (arith, e))

read_back : (own flags root cost bridge port age max hello delay : ℕ)
    → bpdu (written own (Config flags root cost bridge port age max hello delay))
    ≡ Some (Config (number (flags ∷ [])) (number (bytes_high_first 8 root)) (number (bytes_high_first 4 cost)) (number (bytes_high_first 8 bridge)) (number (bytes_high_first 2 port))
    (number (bytes_high_first 2 age)) (number (bytes_high_first 2 max)) (number (bytes_high_first 2 hello)) (number (bytes_high_first 2 delay)))
read_back own flags root cost bridge port age max hello delay = refl

pub bpdu-written : (own : ℕ) (m : BpduMsg) → Fits m → bpdu (written own m) ≡ Some m
bpdu-written own Tcn h = refl
bpdu-written own (Config flags root cost bridge port age max hello delay) h =
    read_back own flags root cost bridge port age max hello delay
    ∙ (λ i. Some
    (Config (one i) (spelled 8 root h.1 i) (spelled 4 cost h.2 i) (spelled 8 bridge h.3 i) (spelled 2 port h.4 i) (spelled 2 age h.5 i) (spelled 2 max h.6 i) (spelled 2 hello h.7 i)
    (spelled 2 delay h.8 i)))
  where
    one : number (flags ∷ []) ≡ flags
    one = omega arith
