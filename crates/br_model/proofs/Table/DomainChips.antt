-- Which domains have a chip.
use Rattle.std.proofs.Common.{◌≡◌, ℕ, zero, suc, ◌+◌, ◌≤◌, true, false, List, [], ◌∷◌, map, Option, None, Some, refl, ap, ◌∙◌, arith}
use Rattle.std.proofs.lemmas.Bool.{eqb-true}
use Rattle.std.proofs.lemmas.Map.Views.{any-filter_same}
use Rattle.std.specs.Prelude.{◌==◌, ◌||◌, ◌&&◌}
use Rattle.std.specs.List.{list_any}
use Rattle.std.specs.Option.{option_eq}
use Rattle.lemmas.proofs.Tests.{and-true}
use Rattle.br_model.specs.Table.Domains.{chips_among, entries_from, first_chip_domain, last_chip}

-- a domain is among those of the entries where it is in a place
pub any-place : (n d : ℕ) (places : List (Option ℕ)) → list_any (λ o. option_eq (λ x y. x == y) o (Some d)) places ≡ list_any (λ e. e == d) (map (λ e. e.1) (entries_from n places))
any-place n d [] = refl
any-place n d (None ∷ places) = any-place (n + 1) d places
any-place n d (Some x ∷ places) = ap (λ b. (x == d) || b) (any-place (n + 1) d places)

-- any domain but that of software has a chip where a port is declared on it
pub chip-declared : (declared : List ℕ) (d : ℕ) → d ≤ last_chip → (d == 1) ≡ false → (d == 0) ≡ false
    → list_any (λ k. k == d) (chips_among declared) ≡ list_any (λ e. e == d) declared
chip-declared declared d within first soft =
    any-filter_same (λ k. k == d) (λ k. k == first_chip_domain || list_any (λ e. e == k) declared) (d == first_chip_domain || list_any (λ e. e == d) declared)
    (λ k same. ap (λ i. i == first_chip_domain || list_any (λ e. e == i) declared) (eqb-true k d same)) (1 ∷ 2 ∷ 3 ∷ 4 ∷ [])
    ∙ ap (λ b. (b || list_any (λ e. e == d) declared) && list_any (λ k. k == d) (1 ∷ 2 ∷ 3 ∷ 4 ∷ [])) first
    ∙ ap (λ b. list_any (λ e. e == d) declared && b) (among d within soft)
    ∙ and-true (list_any (λ e. e == d) declared)
  where
    among : (d : ℕ) → d ≤ last_chip → (d == 0) ≡ false → list_any (λ k. k == d) (1 ∷ 2 ∷ 3 ∷ 4 ∷ []) ≡ true
    among zero w s = absurd (cc)
    among (suc zero) w s = refl
    among (suc (suc zero)) w s = refl
    among (suc (suc (suc zero))) w s = refl
    among (suc (suc (suc (suc zero)))) w s = refl
    among (suc (suc (suc (suc (suc d))))) w s = absurd (omega (arith, w))
