-- The drain, found from the end.
use Rattle.std.proofs.Common.{◌≡◌, ℕ, ◌+◌, ◌-◌, ◌≤◌, ◌&&◌, true, false, List, length, drop, get_or, nat_le, sym, ap, ◌∙◌, arith, inl, inr, length-drop}
use Rattle.std.proofs.lemmas.Bool.Decides.{leb_tells}
use Rattle.std.proofs.lemmas.List.{get_or-drop}
use Rattle.std.proofs.lemmas.List.Folds.{list_all_at}
use Rattle.std.specs.List.{list_all}
use Rattle.lemmas.proofs.Lists.{drop_item}
use Rattle.br_model.specs.declared.steps.Step.{Step}
use Rattle.br_model.specs.Program.LiveRun.{may_drain}

-- from so many steps on there are none but those of a drain
abbrev pub Drains : List Step → ℕ → Type 0
Drains steps n = (k : ℕ) → n ≤ k → list_all may_drain (drop k steps) ≡ true

module _ (steps : List Step) (n m : ℕ) (x : Step) (one : m + 1 ≡ n) (within : n ≤ length steps) (is : x ≡ get_or steps m x) (drains : Drains steps n) where
  pub drain_more : may_drain x ≡ true → Drains steps m
  drain_more may k low = elim (leb_tells n k) as (λ _. list_all may_drain (drop k steps) ≡ true) [
    | inl h ↦ drains k h.1
    | inr h ↦
        let same : k ≡ m = omega (arith, h.1, low, one) in
        ap (λ i. list_all may_drain (drop i steps)) same
        ∙ ap (list_all may_drain) (drop_item steps m x (omega (arith, one, within)) is)
        ∙ ap (λ b. b && list_all may_drain (drop (m + 1) steps)) may
        ∙ drains (m + 1) (omega (arith, one))
  ]

  undrained : may_drain x ≡ false → (k : ℕ) → k ≤ m → list_all may_drain (drop k steps) ≡ false
  undrained not_may k low =
      let at : k + (m - k) ≡ m = omega (arith, low) in
      list_all_at may_drain (drop k steps) (m - k) x (omega (arith, one, within, low, length-drop k steps))
      (ap may_drain (get_or-drop k steps (m - k) x ∙ ap (λ i. get_or steps i x) at ∙ sym is) ∙ not_may)

  pub drain_ends : may_drain x ≡ false → (k : ℕ) → list_all may_drain (drop k steps) ≡ nat_le n k
  drain_ends not_may k = elim (leb_tells n k) as (λ _. list_all may_drain (drop k steps) ≡ nat_le n k) [
    | inl h ↦ drains k h.1 ∙ sym h.0
    | inr h ↦ undrained not_may k (omega (arith, h.1, one)) ∙ sym h.0
  ]

pub all_drains : (steps : List Step) (n : ℕ) → n ≡ 0 → Drains steps n → (k : ℕ) → list_all may_drain (drop k steps) ≡ nat_le n k
all_drains steps n none drains k = elim (leb_tells n k) as (λ _. list_all may_drain (drop k steps) ≡ nat_le n k) [
  | inl h ↦ drains k h.1 ∙ sym h.0
  | inr h ↦ absurd (omega (arith, h.1, none))
]
