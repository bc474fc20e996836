-- What a comparison answers.
use Rattle.std.proofs.Common.{◌≡◌, ℕ, ◌<◌, true, false, ◌&&◌, refl, sym, ap, ◌∙◌, arith}
use Rattle.std.specs.Prelude.{◌==◌}
use Rattle.std.specs.Ordering.{nat_cmp, eq_by_cmp, ordering_then, ordering_reverse, is_lt, is_eq, is_gt}
use Rattle.std.specs.declared.cmp.Ordering.{Ordering}
use Rattle.std.specs.declared.cmp.Ordering.TheVariants.{Less, Equal, Greater}
use Rattle.std.specs.Cmp.{unsigned_tied}
use Rattle.std.proofs.lemmas.Bool.{eqb-true, eq-eqb, ne_eqb}
use Rattle.std.proofs.lemmas.Bool.Decides.{nat_tests}
use Rattle.std.proofs.lemmas.Cmp.{nat_cmp_total, ranked, by_ranked, tied_itself}
use Rattle.lemmas.proofs.Numbers.{eqb-sym}

-- ---- one answer

pub is_lt-true : (r : Ordering) → is_lt r ≡ true → r ≡ Less
is_lt-true Less h = refl
is_lt-true Equal h = absurd (cc)
is_lt-true Greater h = absurd (cc)

pub is_eq-true : (r : Ordering) → is_eq r ≡ true → r ≡ Equal
is_eq-true Less h = absurd (cc)
is_eq-true Equal h = refl
is_eq-true Greater h = absurd (cc)

pub is_gt-true : (r : Ordering) → is_gt r ≡ true → r ≡ Greater
is_gt-true Less h = absurd (cc)
is_gt-true Equal h = absurd (cc)
is_gt-true Greater h = refl

pub is_eq-reverse : (r : Ordering) → is_eq (ordering_reverse r) ≡ is_eq r
is_eq-reverse Less = refl
is_eq-reverse Equal = refl
is_eq-reverse Greater = refl

pub is_gt-reverse : (r : Ordering) → is_gt (ordering_reverse r) ≡ is_lt r
is_gt-reverse Less = refl
is_gt-reverse Equal = refl
is_gt-reverse Greater = refl

-- greater in neither order
pub Equal_from_neither : (r : Ordering) → is_gt r ≡ false → is_gt (ordering_reverse r) ≡ false → r ≡ Equal
Equal_from_neither Less p q = absurd (cc)
Equal_from_neither Equal p q = refl
Equal_from_neither Greater p q = absurd (cc)

-- ---- one answer, then another

pub then-equal : (r s : Ordering) → ordering_then r s ≡ Equal → (r ≡ Equal) × (s ≡ Equal)
then-equal Less s e = absurd (cc)
then-equal Equal s e = (refl, e)
then-equal Greater s e = absurd (cc)

pub then_assoc : (a b c : Ordering) → ordering_then a (ordering_then b c) ≡ ordering_then (ordering_then a b) c
then_assoc Less b c = refl
then_assoc Equal b c = refl
then_assoc Greater b c = refl

pub is_eq-then : (r s : Ordering) → is_eq (ordering_then r s) ≡ (is_eq r && is_eq s)
is_eq-then Less s = refl
is_eq-then Equal s = refl
is_eq-then Greater s = refl

-- ---- numbers

pub nat_cmp-itself : (n : ℕ) → nat_cmp n n ≡ Equal
nat_cmp-itself n = tied_itself nat_cmp_total n

pub nat_cmp-lt : (m n : ℕ) → m < n → nat_cmp m n ≡ Less
nat_cmp-lt m n h = grind (arith, nat_tests)

pub nat_cmp-gt : (m n : ℕ) → n < m → nat_cmp m n ≡ Greater
nat_cmp-gt m n h = grind (arith, nat_tests)

pub lt_from_nat_cmp : (m n : ℕ) → nat_cmp m n ≡ Less → m < n
lt_from_nat_cmp m n e = by_ranked (m < n) (m ≡ n) (n < m) (nat_cmp m n) (ranked m n (nat_cmp m n) refl)
    (λ less h. h)
    (λ same h. absurd (cc (sym e ∙ same)))
    (λ more h. absurd (cc (sym e ∙ more)))

pub eq_by_cmp-itself : (n : ℕ) → eq_by_cmp nat_cmp n n ≡ true
eq_by_cmp-itself n = ap is_eq (tied_itself nat_cmp_total n)

pub eq_by_cmp-true : (m n : ℕ) → eq_by_cmp nat_cmp m n ≡ true → m ≡ n
eq_by_cmp-true m n h = eqb-true m n (sym (unsigned_tied m n) ∙ h)

pub eq_by_cmp-eq : (m n : ℕ) → m ≡ n → eq_by_cmp nat_cmp m n ≡ true
eq_by_cmp-eq m n h = unsigned_tied m n ∙ eq-eqb m n h

pub eq_by_cmp-ne : (m n : ℕ) → (m ≡ n → ⊥) → eq_by_cmp nat_cmp m n ≡ false
eq_by_cmp-ne m n h = unsigned_tied m n ∙ ne_eqb m n h

pub eq_by_cmp-turned : (m n : ℕ) → eq_by_cmp nat_cmp m n ≡ (n == m)
eq_by_cmp-turned m n = unsigned_tied m n ∙ eqb-sym m n
