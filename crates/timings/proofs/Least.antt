-- The least number that passes.
use Rattle.std.proofs.Common.{◌≡◌, ℕ, ◌+◌, ◌≤◌, zero, suc, true, false, cond, None, Some, refl, sym, ap, ◌∙◌, arith}
use Rattle.std.proofs.lemmas.Bool.{true≢false}
use Rattle.std.proofs.lemmas.Option.{same_Some}
use Rattle.std.specs.Prelude.{Bool, is_some}
use Rattle.timings.specs.Greedy.{least_from}

-- what passes isn't below the least one
pub least-least : (p : ℕ → Bool) (n more k : ℕ) → least_from p n more ≡ Some k → (j : ℕ) → n ≤ j → p j ≡ true → k ≤ j
least-least p n zero k e j low passes =
    (elim (p n) as (λ b. p n ≡ b → cond b (Some n) None ≡ Some k → k ≤ j) [
      | true ↦ λ is f. omega (arith, same_Some n k f, low)
      | false ↦ λ is f. absurd (cc)
    ]) refl e
least-least p n (suc more) k e j low passes =
    (elim (p n) as (λ b. p n ≡ b → cond b (Some n) (least_from p (suc n) more) ≡ Some k → k ≤ j) [
      | true ↦ λ is f. omega (arith, same_Some n k f, low)
      | false ↦ λ is f. least-least p (suc n) more k f j (above is) passes
    ]) refl e
  where
    above : p n ≡ false → suc n ≤ j
    above is = omega (arith, low, λ (same : n ≡ j). true≢false (sym passes ∙ ap p (sym same) ∙ is))

-- what is found passes, from the start on
pub least-passes : (p : ℕ → Bool) (n more k : ℕ) → least_from p n more ≡ Some k → p k ≡ true
least-passes p n zero k e =
    (elim (p n) as (λ b. p n ≡ b → cond b (Some n) None ≡ Some k → p k ≡ true) [
      | true ↦ λ is f. ap p (sym (same_Some n k f)) ∙ is
      | false ↦ λ is f. absurd (cc)
    ]) refl e
least-passes p n (suc more) k e =
    (elim (p n) as (λ b. p n ≡ b → cond b (Some n) (least_from p (suc n) more) ≡ Some k → p k ≡ true) [
      | true ↦ λ is f. ap p (sym (same_Some n k f)) ∙ is
      | false ↦ λ is f. least-passes p (suc n) more k f
    ]) refl e

-- where one within the reach passes, one is found
pub least-found : (p : ℕ → Bool) (n more j : ℕ) → n ≤ j → j ≤ n + more → p j ≡ true → is_some (least_from p n more) ≡ true
least-found p n zero j low high passes =
    let same : j ≡ n = omega (arith, low, high) in
    ap (λ b. is_some (cond b (Some n) None)) (ap p (sym same) ∙ passes)
least-found p n (suc more) j low high passes =
    (elim (p n) as (λ b. p n ≡ b → is_some (cond b (Some n) (least_from p (suc n) more)) ≡ true) [
      | true ↦ λ is. refl
      | false ↦ λ is. least-found p (suc n) more j (above is) (omega (arith, high)) passes
    ]) refl
  where
    above : p n ≡ false → suc n ≤ j
    above is = omega (arith, low, λ (same : n ≡ j). true≢false (sym passes ∙ ap p (sym same) ∙ is))

-- nothing beyond the reach is found
pub least-within : (p : ℕ → Bool) (n more k : ℕ) → least_from p n more ≡ Some k → k ≤ n + more
least-within p n zero k e =
    (elim (p n) as (λ b. cond b (Some n) None ≡ Some k → k ≤ n + 0) [
      | true ↦ λ f. omega (arith, same_Some n k f)
      | false ↦ λ f. absurd (cc)
    ]) e
least-within p n (suc more) k e =
    (elim (p n) as (λ b. cond b (Some n) (least_from p (suc n) more) ≡ Some k → k ≤ n + suc more) [
      | true ↦ λ f. omega (arith, same_Some n k f)
      | false ↦ λ f. omega (arith, least-within p (suc n) more k f)
    ]) e
