-- Tests of numbers, and sums of bytes.
use Rattle.std.proofs.Common.{◌≡◌, ◌≢◌, ℕ, suc, ◌+◌, ◌*◌, ◌<◌, true, false, ◌||◌, ◌==◌, nat_lt, refl, sym, ◌∙◌, inl, inr, arith}
use Rattle.std.proofs.lemmas.Bool.{eq-eqb, eqb-false, ne_eqb}
use Rattle.std.proofs.lemmas.Bool.Decides.{eqb_tells, nat_tests}

pub eqb-itself : (n : ℕ) → (n == n) ≡ true
eqb-itself n = eq-eqb n n refl

pub eqb-sym : (m n : ℕ) → (m == n) ≡ (n == m)
eqb-sym m n = elim (eqb_tells m n) [
  | inl e ↦ eq-eqb m n e.1 ∙ sym (eq-eqb n m (sym e.1))
  | inr e ↦ ne_eqb m n e.1 ∙ sym (ne_eqb n m (λ x. e.1 (sym x)))
]

pub eqb-apart : (m n : ℕ) → (m == n) ≡ false → (n == m) ≡ false
eqb-apart m n h = ne_eqb n m (λ e. eqb-false m n h (sym e))

pub ne_from_eqb : (m n : ℕ) → (m == n) ≡ false → m ≢ n
ne_from_eqb m n h = eqb-false m n h

pub ltb-itself : (n : ℕ) → nat_lt n n ≡ false
ltb-itself n = grind arith

pub ltb-next : (n m : ℕ) → nat_lt m (n + 1) ≡ ((m == n) || nat_lt m n)
ltb-next n m = grind (arith, nat_tests)

pub ltb-later : (m n : ℕ) → (m ≡ n → ⊥) → nat_lt m n ≡ nat_lt m (n + 1)
ltb-later m n apart = grind (arith, nat_tests)

pub suc-add-one : (n : ℕ) → suc n + 1 ≡ suc (n + 1)
suc-add-one n = omega arith

-- one byte more in front of what two bytes say, in units of p
pub bytes_collect : (a b p r : ℕ) → (256 * a + b) * p + r ≡ a * (256 * p) + (b * p + r)
bytes_collect a b p r = omega arith
