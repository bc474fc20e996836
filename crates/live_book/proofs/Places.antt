-- The place of the first step that passes a test, from a place on.
use Rattle.std.proofs.Common.{◌≡◌, ℕ, ◌+◌, ◌<◌, ◌≤◌, Bool, true, false, not, cond, List, length, drop, get_or, ap, ◌∙◌, arith}
use Rattle.std.proofs.Math.ListN.{drop_of_length-le}
use Rattle.std.specs.List.{position_or_len}
use Rattle.lemmas.proofs.Lists.{drop_item}
use Rattle.br_model.specs.declared.steps.Step.{Step}

-- from one place on; none such is the length
abbrev pub place_from : (Step → Bool) → List Step → ℕ → ℕ
place_from p steps from = from + position_or_len p (drop from steps)

module _ (p : Step → Bool) (xs : List Step) (i : ℕ) where
  at_first : (x : Step) (b : Bool) → i < length xs → x ≡ get_or xs i x → p x ≡ b → place_from p xs i ≡ i + cond (not b) (1 + position_or_len p (drop (i + 1) xs)) 0
  at_first x b h e is = ap (λ l. i + position_or_len p l) (drop_item xs i x h e) ∙ ap (λ b. i + cond (not b) (1 + position_or_len p (drop (i + 1) xs)) 0) is

  pub place_here : (x : Step) → i < length xs → x ≡ get_or xs i x → p x ≡ true → place_from p xs i ≡ i
  place_here x h e is = let last : i + 0 ≡ i = omega arith in at_first x true h e is ∙ last

  pub place_behind : (x : Step) → i < length xs → x ≡ get_or xs i x → p x ≡ false → place_from p xs i ≡ place_from p xs (i + 1)
  place_behind x h e is =
      let more : i + (1 + position_or_len p (drop (i + 1) xs)) ≡ (i + 1) + position_or_len p (drop (i + 1) xs) = omega arith in at_first x false h e is ∙ more

  pub place_past : length xs ≤ i → place_from p xs i ≡ i
  place_past h = let last : i + 0 ≡ i = omega arith in ap (λ l. i + position_or_len p l) (drop_of_length-le xs h) ∙ last

pub place_none : (p : Step → Bool) (xs : List Step) → place_from p xs 0 ≡ position_or_len p xs
place_none p xs = omega arith
