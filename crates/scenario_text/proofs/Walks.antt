-- A walk over steps, each of which is written.
use Rattle.std.proofs.Common.{◌≡◌, ℕ, ◌+◌, ◌<◌, ◌≤◌, Bool, true, List, ◌∷◌, ◌++◌, length, drop, get_or, sym, ◌∙◌, ap, append_assoc}
use Rattle.std.proofs.lemmas.List.{append-nil, drop_all, drop_more}
use Rattle.std.specs.Cmp.{first_so, second_so}
use Rattle.std.specs.List.{flat_map, list_all}

module _ {X : Type 0} (f : X → List ℕ) (p : X → Bool) (xs : List X) (i : ℕ) (x : X) (h : i < length xs) (e : x ≡ get_or xs i x) where
  here : drop i xs ≡ x ∷ drop (i + 1) xs
  here = drop_more xs i x h ∙ ap (λ (y : X). y ∷ drop (i + 1) xs) (sym e)

  -- it passes, and so do those behind it
  pub passes : list_all p (drop i xs) ≡ true → p x ≡ true
  passes all = first_so (p x) (list_all p (drop (i + 1) xs)) (ap (list_all p) (sym here) ∙ all)

  pub pass_later : list_all p (drop i xs) ≡ true → list_all p (drop (i + 1) xs) ≡ true
  pass_later all = second_so (p x) (list_all p (drop (i + 1) xs)) (ap (list_all p) (sym here) ∙ all)

  -- it was written
  pub text_on : (s1 s2 whole : List ℕ) → s1 ++ flat_map f (drop i xs) ≡ whole → s2 ≡ s1 ++ f x → s2 ++ flat_map f (drop (i + 1) xs) ≡ whole
  text_on s1 s2 whole so_far is =
      ap (λ (s : List ℕ). s ++ flat_map f (drop (i + 1) xs)) is
      ∙ append_assoc s1 (f x) (flat_map f (drop (i + 1) xs))
      ∙ ap (λ (ys : List X). s1 ++ flat_map f ys) (sym here)
      ∙ so_far

-- all are written
pub text_all : {X : Type 0} (f : X → List ℕ) (xs : List X) (i : ℕ) (s whole : List ℕ) → length xs ≤ i → s ++ flat_map f (drop i xs) ≡ whole → s ≡ whole
text_all {X} f xs i s whole h so_far = sym (append-nil s) ∙ ap (λ (ys : List X). s ++ flat_map f ys) (sym (drop_all i xs h)) ∙ so_far
