-- Views by their places.
use Rattle.std.proofs.Common.{◌≡◌, ◌≢◌, ℕ, zero, suc, List, [], ◌∷◌, ◌++◌, length, set, sym, refl, ap, subst, ⊎_elim}
use mathlib.Core.Option.{some, some-ne-none}
use lib.ListN.{get_elem?}
use Rattle.atomic_table.proofs.Lists.{at_set}

module _ {V : Type 0} where
  pub at_end : (l : List V) (a b : V) (j : ℕ) → get_elem? l j ≢ some b → get_elem? (l ++ a ∷ []) j ≡ some b → j ≡ length l
  at_end [] a b zero n e = refl
  at_end [] a b (suc j) n e = absurd (some-ne-none b (sym e))
  at_end (x ∷ xs) a b zero n e = absurd (n e)
  at_end (x ∷ xs) a b (suc j) n e = ap suc (at_end xs a b j n e)

  abbrev pub All : (ℕ → V → Type 0) → List V → Type 0
  All F views = (place : ℕ) (v : V) → get_elem? views place ≡ some v → F place v

  pub all_set : (F : ℕ → V → Type 0) (views : List V) (place : ℕ) (w : V) → F place w → ((j : ℕ) (u : V) → j ≢ place → get_elem? views j ≡ some u → F j u) → All F (set views place w)
  all_set F views place w mine others j u e = ⊎_elim (λ (x : (j ≡ place) × (w ≡ u)). subst (λ (y : ℕ × V). F y.0 y.1) (λ i. (sym x.0 i, x.1 i)) mine)
      (λ (x : (j ≢ place) × (get_elem? views j ≡ some u)). others j u x.0 x.1) (at_set views place j w u e)
