-- Whether some port passes a test.
use Rattle.std.proofs.Common.{◌≡◌, ℕ, zero, suc, ◌+◌, ◌<◌, ◌≤◌, Bool, true, false, not, ◌||◌, cond, IsTrue, ◌↔◌, List, [], ◌∷◌, refl, sym, ap₂, ◌∙◌, arith}
use Rattle.std.specs.List.{list_any, filter, range_with_len}
use Rattle.br_model.specs.Table.Domains.{port_places}
use Rattle.port_sets.proofs.Numbers.{numbers_below-filter}
use Rattle.chip_tables.specs.Stands.{ports_where, some_port}

any-filter : (p : ℕ → Bool) (xs : List ℕ) → (list_any p xs ≡ false) ↔ (filter p xs ≡ [])
any-filter p [] = ((λ _. refl), (λ _. refl))
any-filter p (x ∷ xs) = step (p x) (any-filter p xs)
  where
    step : (b : Bool) → (list_any p xs ≡ false) ↔ (filter p xs ≡ []) → ((b || list_any p xs) ≡ false) ↔ (cond b (x ∷ filter p xs) (filter p xs) ≡ [])
    step true h = ((λ e. absurd (cc)), (λ e. absurd (cc)))
    step false h = h

-- a set is empty where no port passes
pub some-none : (set : List ℕ) (test : ℕ → Bool) (empty : Bool) → set ≡ ports_where test → IsTrue empty ↔ (set ≡ []) → not empty ≡ some_port test
unfolding some_port
some-none set test empty is tells = by_case (list_any test (range_with_len 0 port_places)) empty (any-filter test (range_with_len 0 port_places)) (is ∙ numbers_below-filter test port_places) tells
  where
    by_case : (b e : Bool) {xs : List ℕ} → (b ≡ false) ↔ (xs ≡ []) → set ≡ xs → IsTrue e ↔ (set ≡ []) → not e ≡ b
    by_case true true h is tells = sym (h.1 (sym is ∙ tells.0 refl))
    by_case true false h is tells = refl
    by_case false true h is tells = refl
    by_case false false h is tells = (let no : IsTrue false = tells.1 (is ∙ h.0 refl) in cc)

any_from : (p q : ℕ → Bool) (a n : ℕ) → ((m : ℕ) → a ≤ m → m < a + n → p m ≡ q m) → list_any p (range_with_len a n) ≡ list_any q (range_with_len a n)
any_from p q a zero h = refl
any_from p q a (suc n) h = ap₂ (λ b c. b || c) (h a (omega arith) (omega arith)) (any_from p q (a + 1) n (λ m low high. h m (omega arith) (omega arith)))

pub same_some : (p q : ℕ → Bool) → ((m : ℕ) → m < port_places → p m ≡ q m) → some_port p ≡ some_port q
unfolding some_port
same_some p q h = any_from p q 0 port_places (λ m low high. h m (omega arith))
