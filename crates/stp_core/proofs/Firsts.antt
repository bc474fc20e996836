-- The first moment that passes one of two tests.
use Rattle.std.proofs.Common.{◌≡◌, ℕ, ◌<◌, ◌≤◌, min, ◌-◌, ◌^◌, Bool, true, false, ◌||◌, ◌⊎◌, inl, inr, refl, sym, ap, ap₂, ◌∙◌, arith}
use Rattle.std.proofs.lemmas.Bool.{cases_lt}
use Rattle.lemmas.proofs.Tests.{or-true}
use Rattle.stp_core.specs.Due.{IsFirst}

pub first_either : (a b : ℕ) (p q : ℕ → Bool) → IsFirst a p → IsFirst b q → IsFirst (min a b) (λ n. p n || q n)
first_either a b p q x y = record {
  before = λ n h. ap₂ (λ u v. u || v) (x.before n (omega arith)) (y.before n (omega arith));
  reached = λ h. by h (cases_lt a b);
}
  where
    by : min a b < 2 ^ 64 - 1 → (a < b) ⊎ (b ≤ a) → (p (min a b) || q (min a b)) ≡ true
    by h (inl less) =
        let m : min a b ≡ a = omega arith in
        ap (λ n. p n || q n) m ∙ ap (λ u. u || q a) (x.reached (omega arith))
    by h (inr more) =
        let m : min a b ≡ b = omega arith in
        ap (λ n. p n || q n) m ∙ ap (λ u. p b || u) (y.reached (omega arith)) ∙ or-true (p b)

-- by another test that says the same
pub first_same : (a b : ℕ) (p q : ℕ → Bool) → a ≡ b → ((n : ℕ) → p n ≡ q n) → IsFirst a p → IsFirst b q
first_same a b p q e same x = record {
  before = λ n h. sym (same n) ∙ x.before n (omega arith);
  reached = λ h. sym (ap q e) ∙ sym (same a) ∙ x.reached (omega arith);
}

pub first_none : IsFirst (2 ^ 64 - 1) (λ _. false)
first_none = record { before = λ n h. refl; reached = λ h. absurd (omega arith) }
