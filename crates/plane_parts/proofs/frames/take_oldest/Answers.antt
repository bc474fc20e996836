use Rattle.std.proofs.Common.{◌≡◌, ℕ, ◌-◌, List, [], ◌∷◌, Option, None, Some, get_or, take, drop, length, refl, sym, ap, ◌∙◌, arith}
use Rattle.std.specs.List.{slice_get}
use Rattle.plane_parts.proofs.frames.take_oldest.Goals as goal

-- what a list of one holds, and what is left of it
first : {A : Type 0} (xs : List A) (n : ℕ) (r : Option A) → length xs ≡ 1 → n ≡ 0 → ((d : A) → r ≡ Some (get_or xs n d)) → r ≡ slice_get xs 0
first [] n r one none is = absurd (omega arith)
first (x ∷ []) n r one none is = is x ∙ ap (λ i. Some (get_or (x ∷ []) i x)) none
first (x ∷ y ∷ xs) n r one none is = absurd (omega arith)

alone : {A : Type 0} (xs : List A) (n : ℕ) → length xs ≡ 1 → n ≡ 0 → take n xs ≡ drop 1 xs
alone [] n one none = absurd (omega arith)
alone (x ∷ []) n one none = ap (λ i. take i (x ∷ [])) none
alone (x ∷ y ∷ xs) n one none = absurd (omega arith)

pub returns-then-len-eq1-clause-oldest : goal.returns-then-len-eq1-clause-oldest
returns-then-len-eq1-clause-oldest c =
    first c.args.waiting.now.items _ c.pop_back.result (omega (arith, c.args.waiting.now.ok.0)) (omega (arith, c.args.waiting.now.ok.0)) (λ d. c.pop_back.ensures.value d (omega arith))

pub returns-then-len-eq1-clause-rest : goal.returns-then-len-eq1-clause-rest
returns-then-len-eq1-clause-rest c = c.pop_back.ensures.rest ∙ alone c.args.waiting.now.items _ (omega (arith, c.args.waiting.now.ok.0)) (omega arith)
