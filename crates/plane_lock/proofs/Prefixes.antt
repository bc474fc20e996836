-- Prefixes of lists.
use Rattle.std.proofs.Common.{◌≡◌, ℕ, ◌+◌, ◌≤◌, List, [], ◌∷◌, ◌++◌, length, take, slice_get, None, Some, sym, ap, ◌∙◌, arith}
use Rattle.std.proofs.lemmas.List.{take_all, take_more, take-append-le}
use Rattle.std.proofs.lemmas.Option.{get_or_from_slice_get, slice_get_cases, slice_get_within}
use mathlib.Core.List.{IsPrefix}
use mathlib.Core.Logic.{⊎_elim}

-- one more is taken
pub take-one : {A : Type 0} (xs : List A) (i : ℕ) (x : A) → slice_get xs i ≡ Some x → take i xs ++ x ∷ [] ≡ take (i + 1) xs
take-one xs i x e = sym (take_more xs i x (slice_get_within xs i x e) ∙ ap (λ y. take i xs ++ y ∷ []) (get_or_from_slice_get xs i x x e))

-- nothing stands there, so there is no more
pub none-there : {A : Type 0} (xs : List A) (n : ℕ) → slice_get xs n ≡ None → length xs ≤ n
none-there xs n e = ⊎_elim (λ p. absurd (cc (e, p.2))) (λ p. p.0) (slice_get_cases xs n).1

-- a prefix is what the whole has in its length
pub prefix-take : {A : Type 0} (xs ys : List A) → IsPrefix xs ys → xs ≡ take (length xs) ys
prefix-take xs ys p = sym (ap (take (length xs)) (sym p.1) ∙ (take-append-le (length xs) xs p.0 (omega arith) ∙ take_all (length xs) xs (omega arith)))

-- a prefix as long as the whole is the whole
pub no-more : {A : Type 0} (xs ys : List A) → IsPrefix xs ys → length ys ≡ length xs → ys ≡ xs
no-more xs ys p e = sym (prefix-take xs ys p ∙ take_all (length xs) ys (omega (arith, e)))
