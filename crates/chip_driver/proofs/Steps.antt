-- One more of a count.
use Rattle.std.proofs.Common.{◌≡◌, ◌≢◌, ℕ, ◌+◌, ◌*◌, ◌/◌, ◌%◌, ◌<◌, true, false, ◌&&◌, ◌||◌, cond, ⊎_elim, sym, ap, ap₂, ◌∙◌, arith}
use Rattle.std.specs.Prelude.{◌==◌, nat_lt}
use Rattle.std.proofs.lemmas.Bool.{eq-eqb, ne_eqb}
use Rattle.std.proofs.lemmas.Bool.Decides.{eqb_tells, nat_tests}
use Rattle.lemmas.proofs.Numbers.{ltb-next}

pub none_lt : (m : ℕ) → nat_lt m 0 ≡ false
none_lt m = grind (arith, nat_tests)

-- places below n hold what they are to hold, and now that at n does too
pub next_of : {A : Type 0} (q n : ℕ) (written wanted before : A) → (q ≡ n → written ≡ wanted) → cond (q == n) written (cond (nat_lt q n) wanted before) ≡ cond (nat_lt q (n + 1)) wanted before
next_of q n written wanted before h =
    ⊎_elim
    (λ (same : ((q == n) ≡ true) × (q ≡ n)).
    ap (λ b. cond b written (cond (nat_lt q n) wanted before)) same.0 ∙ h same.1 ∙ ap (λ b. cond (b || nat_lt q n) wanted before) (sym same.0))
    (λ (other : ((q == n) ≡ false) × (q ≢ n)).
    ap (λ b. cond b written (cond (nat_lt q n) wanted before)) other.0 ∙ ap (λ b. cond (b || nat_lt q n) wanted before) (sym other.0))
    (eqb_tells q n)
    ∙ ap (λ b. cond b wanted before) (sym (ltb-next n q))

-- ---- a number by its quotient and its remainder

pub split : (w i n : ℕ) → n < 64 → (w == 64 * i + n) ≡ ((w / 64 == i) && (w % 64 == n))
split w i n low =
    ⊎_elim
    (λ (d : ((w / 64 == i) ≡ true) × (w / 64 ≡ i)).
    ⊎_elim
    (λ (m : ((w % 64 == n) ≡ true) × (w % 64 ≡ n)). eq-eqb w (64 * i + n) (omega arith) ∙ sym (ap₂ (λ a b. a && b) d.0 m.0))
    (λ (m : ((w % 64 == n) ≡ false) × (w % 64 ≢ n)). ne_eqb w (64 * i + n) (λ is. m.1 (omega arith)) ∙ sym (ap₂ (λ a b. a && b) d.0 m.0))
    (eqb_tells (w % 64) n))
    (λ (d : ((w / 64 == i) ≡ false) × (w / 64 ≢ i)). ne_eqb w (64 * i + n) (λ is. d.1 (omega arith)) ∙ sym (ap (λ a. a && (w % 64 == n)) d.0))
    (eqb_tells (w / 64) i)
