-- Lines of one thing more.
use Rattle.std.proofs.Common.{◌≡◌, ℕ, zero, suc, Bool, refl, ◌+◌, ◌-◌, ◌<◌, ◌≤◌, List, [], ◌∷◌, ◌++◌, length, get_or, take, sym, ap, ◌∙◌, append_assoc, append-nil, arith}
use Rattle.std.specs.List.{flat_map, filter}
use Rattle.std.proofs.lemmas.List.{take_more}
use Rattle.std.proofs.lemmas.List.Elements.{filter-append}
use Rattle.std.proofs.lemmas.Grind.{flat_map-append}

pub line-more : {X : Type 0} (f : X → List ℕ) (xs : List X) (i : ℕ) (x : X) (old mid new : List ℕ) → i < length xs → x ≡ get_or xs i x → mid ≡ old ++ flat_map f (take i xs) → new ≡ mid ++ f x
    → new ≡ old ++ flat_map f (take (i + 1) xs)
line-more f xs i x old mid new within is was more =
    more ∙ ap (λ (s : List ℕ). s ++ f x) was ∙ append_assoc old (flat_map f (take i xs)) (f x)
    ∙ ap (λ (s : List ℕ). old ++ s) (
    ap (λ (s : List ℕ). flat_map f (take i xs) ++ s) (sym (append-nil (f x))) ∙ sym (flat_map-append f (take i xs) (x ∷ []))
    ∙ ap (flat_map f) (sym (take_more xs i x within ∙ ap (λ y. take i xs ++ y ∷ []) (sym is))))

-- the numbers of the domains of chips

next : (n : ℕ) → 1 ≤ n → n < 5 → take (n + 1 - 1) (1 ∷ 2 ∷ 3 ∷ 4 ∷ []) ≡ take (n - 1) (1 ∷ 2 ∷ 3 ∷ 4 ∷ []) ++ n ∷ []
next zero from to = absurd (omega (arith, from))
next (suc zero) from to = refl
next (suc (suc zero)) from to = refl
next (suc (suc (suc zero))) from to = refl
next (suc (suc (suc (suc zero)))) from to = refl
next (suc (suc (suc (suc (suc n))))) from to = absurd (omega (arith, to))

pub numbers-more : (f : ℕ → List ℕ) (p : ℕ → Bool) (n : ℕ) (old mid new : List ℕ) → 1 ≤ n → n < 5 → mid ≡ old ++ flat_map f (filter p (take (n - 1) (1 ∷ 2 ∷ 3 ∷ 4 ∷ [])))
    → new ≡ mid ++ flat_map f (filter p (n ∷ [])) → new ≡ old ++ flat_map f (filter p (take (n + 1 - 1) (1 ∷ 2 ∷ 3 ∷ 4 ∷ [])))
numbers-more f p n old mid new from to was more =
    let before : List ℕ = take (n - 1) (1 ∷ 2 ∷ 3 ∷ 4 ∷ []) in
    more ∙ ap (λ (s : List ℕ). s ++ flat_map f (filter p (n ∷ []))) was
    ∙ append_assoc old (flat_map f (filter p before)) (flat_map f (filter p (n ∷ [])))
    ∙ ap (λ (s : List ℕ). old ++ s) (
    sym (flat_map-append f (filter p before) (filter p (n ∷ []))) ∙ ap (flat_map f) (sym (filter-append p before (n ∷ []))) ∙ ap (λ (l : List ℕ). flat_map f (filter p l)) (sym (next n from to)))
