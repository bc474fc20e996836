-- Numbers that ascend.
use Rattle.std.proofs.Common.{◌≡◌, ℕ, ◌+◌, nat_lt, true, List, [], ◌∷◌, ◌++◌, refl, arith}
use Rattle.std.specs.List.{list_all}
use Rattle.std.specs.Cmp.{first_so, second_so}
use Rattle.std.proofs.lemmas.Bool.{and_from}
use Rattle.plane_parts.specs.Queued.{ascends}

lt_next : (x n : ℕ) → nat_lt x n ≡ true → nat_lt x (n + 1) ≡ true
lt_next x n h = grind arith

lt_self : (n : ℕ) → nat_lt n (n + 1) ≡ true
lt_self n = grind arith

-- below the last one is below a later one
below_later : (x n : ℕ) (xs : List ℕ) → list_all (λ m. nat_lt x m) (xs ++ n ∷ []) ≡ true → list_all (λ m. nat_lt x m) (xs ++ (n + 1) ∷ []) ≡ true
below_later x n [] h = and_from _ _ (lt_next x n (first_so _ _ h)) refl
below_later x n (y ∷ xs) h = and_from _ _ (first_so _ _ h) (below_later x n xs (second_so _ _ h))

pub ascends_later : (n : ℕ) (xs : List ℕ) → ascends (xs ++ n ∷ []) ≡ true → ascends (xs ++ (n + 1) ∷ []) ≡ true
ascends_later n [] h = refl
ascends_later n (y ∷ xs) h = and_from _ _ (below_later y n xs (first_so _ _ h)) (ascends_later n xs (second_so _ _ h))

below_more : (x n : ℕ) (xs : List ℕ) → list_all (λ m. nat_lt x m) (xs ++ n ∷ []) ≡ true → list_all (λ m. nat_lt x m) (xs ++ n ∷ (n + 1) ∷ []) ≡ true
below_more x n [] h = and_from _ _ (first_so _ _ h) (and_from _ _ (lt_next x n (first_so _ _ h)) refl)
below_more x n (y ∷ xs) h = and_from _ _ (first_so _ _ h) (below_more x n xs (second_so _ _ h))

pub ascends_more : (n : ℕ) (xs : List ℕ) → ascends (xs ++ n ∷ []) ≡ true → ascends (xs ++ n ∷ (n + 1) ∷ []) ≡ true
ascends_more n [] h = and_from _ _ (and_from _ _ (lt_self n) refl) refl
ascends_more n (y ∷ xs) h = and_from _ _ (below_more y n xs (first_so _ _ h)) (ascends_more n xs (second_so _ _ h))

below_without : (x n : ℕ) (xs ys : List ℕ) → list_all (λ m. nat_lt x m) (xs ++ n ∷ ys) ≡ true → list_all (λ m. nat_lt x m) (xs ++ ys) ≡ true
below_without x n [] ys h = second_so _ _ h
below_without x n (y ∷ xs) ys h = and_from _ _ (first_so _ _ h) (below_without x n xs ys (second_so _ _ h))

-- one of them less
pub ascends_without : (n : ℕ) (xs ys : List ℕ) → ascends (xs ++ n ∷ ys) ≡ true → ascends (xs ++ ys) ≡ true
ascends_without n [] ys h = second_so _ _ h
ascends_without n (y ∷ xs) ys h = and_from _ _ (below_without y n xs ys (first_so _ _ h)) (ascends_without n xs ys (second_so _ _ h))
