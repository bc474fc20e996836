-- What is left where anybody looks.
use Rattle.std.proofs.Common.{◌≡◌, ℕ, true, false, not, cond, Bool, List, [], ◌∷◌, refl, sym, ap, ◌∙◌, arith}
use Rattle.std.proofs.lemmas.Bool.{eqb-true, le-leb, true≢false}
use Rattle.std.specs.Prelude.{◌==◌, nat_le}
use Rattle.std.specs.List.{filter}
use Rattle.br_model.specs.Plane.Sending.{Sent, in_port_order, placed}
use Rattle.timings.specs.Explained.{Sights, is_blind, watched}

-- what leaves by a port
abbrev at : ℕ → Sent → Sent
at q sent = filter (λ x. x.0 == q) sent

in-front : (q : ℕ) (x y : ℕ × List ℕ) (later : Sent) → nat_le x.0 y.0 ≡ false → at q (y ∷ x ∷ later) ≡ at q (x ∷ y ∷ later)
in-front q x y later less = by (x.0 == q) (y.0 == q) refl refl
  where
    by : (a b : Bool) → (x.0 == q) ≡ a → (y.0 == q) ≡ b → at q (y ∷ x ∷ later) ≡ at q (x ∷ y ∷ later)
    by true true is_x is_y =
        absurd (true≢false (sym (le-leb x.0 y.0 (omega (arith, eqb-true x.0 q is_x, eqb-true y.0 q is_y))) ∙ less))
    by true false is_x is_y =
        ap (λ b. cond b (y ∷ at q (x ∷ later)) (at q (x ∷ later))) is_y
        ∙ sym (ap (λ b. cond (x.0 == q) (x ∷ cond b (y ∷ at q later) (at q later)) (cond b (y ∷ at q later) (at q later))) is_y)
    by false b is_x is_y =
        ap (λ t. cond (y.0 == q) (y ∷ cond t (x ∷ at q later) (at q later)) (cond t (x ∷ at q later) (at q later))) is_x
        ∙ sym (ap (λ t. cond t (x ∷ at q (y ∷ later)) (at q (y ∷ later))) is_x)

placed-at : (q : ℕ) (x : ℕ × List ℕ) (sent : Sent) → at q (placed x sent) ≡ at q (x ∷ sent)
placed-at q x [] = refl
placed-at q x (y ∷ later) =
    (elim (nat_le x.0 y.0) as (λ b. nat_le x.0 y.0 ≡ b → at q (cond b (x ∷ y ∷ later) (y ∷ placed x later)) ≡ at q (x ∷ y ∷ later)) [
      | true ↦ λ e. refl
      | false ↦ λ e. ap (λ l. cond (y.0 == q) (y ∷ l) l) (placed-at q x later) ∙ in-front q x y later e
    ]) refl

order-at : (q : ℕ) (sent : Sent) → at q (in_port_order sent) ≡ at q sent
order-at q [] = refl
order-at q (x ∷ later) = placed-at q x (in_port_order later) ∙ ap (λ l. cond (x.0 == q) (x ∷ l) l) (order-at q later)

module _ (s : Sights) (q : ℕ) where
  seen-at : (sent : Sent) → is_blind s q ≡ false → at q (filter (λ x. not (is_blind s x.0)) sent) ≡ at q sent
  seen-at [] e = refl
  seen-at (x ∷ later) e =
      (elim (is_blind s x.0) as (λ b. is_blind s x.0 ≡ b
      → at q (cond (not b) (x ∷ filter (λ y. not (is_blind s y.0)) later) (filter (λ y. not (is_blind s y.0)) later)) ≡ cond (x.0 == q) (x ∷ at q later) (at q later)) [
        | true ↦ λ is. seen-at later e ∙ sym (ap (λ b. cond b (x ∷ at q later) (at q later)) (other is))
        | false ↦ λ is. ap (λ l. cond (x.0 == q) (x ∷ l) l) (seen-at later e)
      ]) refl
    where
      other : is_blind s x.0 ≡ true → (x.0 == q) ≡ false
      other is =
          (elim (x.0 == q) as (λ b. (x.0 == q) ≡ b → b ≡ false) [
            | true ↦ λ same. absurd (true≢false (sym is ∙ ap (is_blind s) (eqb-true x.0 q same) ∙ e))
            | false ↦ λ same. refl
          ]) refl

  blind-at : (sent : Sent) → is_blind s q ≡ true → at q (filter (λ x. not (is_blind s x.0)) sent) ≡ []
  blind-at [] e = refl
  blind-at (x ∷ later) e =
      (elim (is_blind s x.0) as (λ b. is_blind s x.0 ≡ b → at q (cond (not b) (x ∷ filter (λ y. not (is_blind s y.0)) later) (filter (λ y. not (is_blind s y.0)) later)) ≡ []) [
        | true ↦ λ is. blind-at later e
        | false ↦ λ is. ap (λ b. cond b (x ∷ at q (filter (λ y. not (is_blind s y.0)) later)) (at q (filter (λ y. not (is_blind s y.0)) later))) (other is) ∙ blind-at later e
      ]) refl
    where
      other : is_blind s x.0 ≡ false → (x.0 == q) ≡ false
      other is =
          (elim (x.0 == q) as (λ b. (x.0 == q) ≡ b → b ≡ false) [
            | true ↦ λ same. absurd (true≢false (sym e ∙ ap (is_blind s) (sym (eqb-true x.0 q same)) ∙ is))
            | false ↦ λ same. refl
          ]) refl

  pub watched-others : (sent : Sent) → is_blind s q ≡ false → at q (watched s sent) ≡ at q sent
  watched-others sent e = order-at q (filter (λ x. not (is_blind s x.0)) sent) ∙ seen-at sent e

  pub watched-blind : (sent : Sent) → is_blind s q ≡ true → at q (watched s sent) ≡ []
  watched-blind sent e = order-at q (filter (λ x. not (is_blind s x.0)) sent) ∙ blind-at sent e
