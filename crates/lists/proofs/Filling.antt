-- Lists that are filled up with blank items.
use Rattle.std.proofs.Common.{◌≡◌, ℕ, zero, suc, ◌+◌, ◌-◌, ◌<◌, ◌≤◌, List, [], ◌∷◌, ◌++◌, length, map, replicate, get_or, set, refl, ap, ◌∙◌, arith}
use Rattle.std.proofs.lemmas.List.{length-set, length-append, length-replicate}
use Rattle.lists.specs.Padded.{padded}

module _ {A : Type 0} (b : A) where
  pub length-padded : (n : ℕ) (xs : List A) → length (padded b n xs) ≡ n
  unfolding padded
  length-padded zero xs = refl
  length-padded (suc n) [] = ap suc (length-padded n [])
  length-padded (suc n) (x ∷ xs) = ap suc (length-padded n xs)

  pub padded-none : (n : ℕ) → padded b n [] ≡ replicate n b
  unfolding padded
  padded-none zero = refl
  padded-none (suc n) = ap (λ (xs : List A). b ∷ xs) (padded-none n)

  blank_at : (n i : ℕ) → get_or (padded b n []) i b ≡ b
  unfolding padded
  blank_at zero i = refl
  blank_at (suc n) zero = refl
  blank_at (suc n) (suc i) = blank_at n i

  -- what stands at a place
  pub padded-at : (n : ℕ) (xs : List A) (i : ℕ) → i < n → get_or (padded b n xs) i b ≡ get_or xs i b
  unfolding padded
  padded-at zero xs i h = absurd (omega arith)
  padded-at (suc n) [] zero h = refl
  padded-at (suc n) [] (suc i) h = blank_at n i
  padded-at (suc n) (x ∷ xs) zero h = refl
  padded-at (suc n) (x ∷ xs) (suc i) h = padded-at n xs i (omega arith)

  blanks : (n k : ℕ) → padded b n (replicate k b) ≡ padded b n []
  unfolding padded
  blanks zero k = refl
  blanks (suc n) zero = refl
  blanks (suc n) (suc k) = ap (λ (xs : List A). b ∷ xs) (blanks n k)

  -- some of the blank items are written out
  pub padded-more : (n : ℕ) (xs : List A) (k : ℕ) → padded b n (xs ++ replicate k b) ≡ padded b n xs
  unfolding padded
  padded-more zero xs k = refl
  padded-more (suc n) [] zero = refl
  padded-more (suc n) [] (suc k) = ap (λ (xs : List A). b ∷ xs) (blanks n k)
  padded-more (suc n) (x ∷ xs) k = ap (λ (ys : List A). x ∷ ys) (padded-more n xs k)

  -- one that is written out changes
  pub padded-set : (n : ℕ) (xs : List A) (i : ℕ) (v : A) → i < length xs → padded b n (set xs i v) ≡ set (padded b n xs) i v
  unfolding padded
  padded-set zero xs i v h = refl
  padded-set (suc n) [] i v h = absurd (omega arith)
  padded-set (suc n) (x ∷ xs) zero v h = refl
  padded-set (suc n) (x ∷ xs) (suc i) v h = ap (λ (ys : List A). x ∷ ys) (padded-set n xs i v (omega arith))

  -- an item is written, and before it what was missing
  pub padded-put : (n : ℕ) (old laid : List A) (i k : ℕ) (v : A) → laid ≡ old ++ replicate k b → i < length laid → padded b n (set laid i v) ≡ set (padded b n old) i v
  padded-put n old laid i k v is h =
      padded-set n laid i v h ∙ ap (λ (xs : List A). set xs i v) (ap (padded b n) is ∙ padded-more n old k)

  pub length-put : (n : ℕ) (old laid : List A) (i : ℕ) (v : A) → laid ≡ old ++ replicate (i + 1 - length old) b → i < n → length old ≤ n → length (set laid i v) ≤ n
  length-put n old laid i v is h short =
      let long = length-set laid i v in
      let all = ap length is ∙ length-append old (replicate (i + 1 - length old) b) in
      let more = length-replicate (i + 1 - length old) b in
      omega arith

pub map-padded : {A B : Type 0} (f : A → B) (b : A) (n : ℕ) (xs : List A) → map f (padded b n xs) ≡ padded (f b) n (map f xs)
unfolding padded
map-padded f b zero xs = refl
map-padded {A} {B} f b (suc n) [] = ap (λ (ys : List B). f b ∷ ys) (map-padded f b n [])
map-padded {A} {B} f b (suc n) (x ∷ xs) = ap (λ (ys : List B). f x ∷ ys) (map-padded f b n xs)
