-- Parts of lists, and what is looked up in them.
use Rattle.std.proofs.Common.{◌≡◌, ◌≢◌, ℕ, zero, suc, ◌+◌, ◌-◌, ◌<◌, ◌≤◌, Bool, true, false, cond, ◌==◌, ◌||◌, List, [], ◌∷◌, ◌++◌, length}
use Rattle.std.proofs.Common.{get_or, set, take, drop, replicate, map, filter_map, slice_get, Option, None, Some, refl, sym, ap, ap₂, subst, ◌∙◌, append_assoc, arith}
use Rattle.std.specs.List.{cons_option, filter, find, list_any}
use Rattle.std.specs.Str.{bytes_eq}
use Rattle.std.proofs.lemmas.Bool.{eqb-true, eq-eqb, or_parts}
use Rattle.std.proofs.lemmas.Option.{same_Some}
use Rattle.std.proofs.Math.Seq.{take-append-add}
use Rattle.std.proofs.lemmas.List.{drop_more, get_or-set_same, get_or-set_other, take_more}
use Rattle.std.proofs.lemmas.List.Elements.{filter_map-append}
use Rattle.std.proofs.lemmas.Slice.Eq.{bytes_eq-Decides}

-- ---- fronts and rests

pub drop-length : {X : Type 0} (xs ys : List X) → drop (length xs) (xs ++ ys) ≡ ys
drop-length [] ys = refl
drop-length (x ∷ xs) ys = drop-length xs ys

pub take-append-more : {X : Type 0} (n : ℕ) (xs ys : List X) → length xs ≤ n → take n (xs ++ ys) ≡ xs ++ take (n - length xs) ys
take-append-more n xs ys h =
    let e : n ≡ length xs + (n - length xs) = omega arith in
    ap (λ k. take k (xs ++ ys)) e ∙ take-append-add xs ys (n - length xs)

pub drop_item : {X : Type 0} (xs : List X) (i : ℕ) (x : X) → i < length xs → x ≡ get_or xs i x → drop i xs ≡ x ∷ drop (i + 1) xs
drop_item xs i x h e = drop_more xs i x h ∙ ap (λ y. y ∷ drop (i + 1) xs) (sym e)

-- ---- joined one by one

pub two_parts : {X : Type 0} (s0 s1 s2 a b : List X) → s1 ≡ s0 ++ a → s2 ≡ s1 ++ b → s2 ≡ s0 ++ (a ++ b)
two_parts s0 s1 s2 a b e f = f ∙ ap (λ s. s ++ b) e ∙ append_assoc s0 a b

pub three_parts : {X : Type 0} (s0 s1 s2 s3 a b c : List X) → s1 ≡ s0 ++ a → s2 ≡ s1 ++ b → s3 ≡ s2 ++ c → s3 ≡ s0 ++ (a ++ (b ++ c))
three_parts s0 s1 s2 s3 a b c d e f = two_parts s0 s2 s3 (a ++ b) c (two_parts s0 s1 s2 a b d e) f ∙ ap (λ s. s0 ++ s) (append_assoc a b c)

-- ---- items

pub slice_get_there : {X : Type 0} (xs : List X) (i : ℕ) → i < length xs → (x : X) × (slice_get xs i ≡ Some x)
slice_get_there [] i h = absurd (omega arith)
slice_get_there (x ∷ xs) zero h = (x, refl)
slice_get_there (x ∷ xs) (suc i) h = slice_get_there xs i (omega arith)

pub nil_from_no_first : {X : Type 0} (xs : List X) → None ≡ slice_get xs 0 → xs ≡ []
nil_from_no_first [] e = refl
nil_from_no_first (x ∷ xs) e = absurd (cc)

-- what is first in a list stands before the rest
pub first_of_all : {X : Type 0} (xs : List X) (x : X) → Some x ≡ slice_get xs 0 → xs ≡ x ∷ drop 1 xs
first_of_all [] x e = absurd (cc)
first_of_all (y ∷ ys) x e = let same : y ≡ x = cc in ap (λ z. z ∷ ys) same

pub find-passes : {X : Type 0} (p : X → Bool) (xs : List X) (x : X) → find p xs ≡ Some x → p x ≡ true
find-passes p [] x e = absurd (cc)
find-passes p (y ∷ ys) x e =
    (elim (p y) as (λ b. p y ≡ b → cond b (Some y) (find p ys) ≡ Some x → p x ≡ true) [
      | true ↦ λ yes is. ap p (sym (same_Some y x is)) ∙ yes
      | false ↦ λ fails is. find-passes p ys x is
    ]) refl e

pub any-filter_none : {X : Type 0} (p q : X → Bool) (xs : List X) → list_any q xs ≡ false → list_any q (filter p xs) ≡ false
any-filter_none p q [] h = refl
any-filter_none p q (x ∷ xs) h = elim (p x) as (λ b. list_any q (cond b (x ∷ filter p xs) (filter p xs)) ≡ false) [
  | true ↦ ap₂ (λ a b. a || b) (or_parts (q x) (list_any q xs) h).0 (any-filter_none p q xs (or_parts (q x) (list_any q xs) h).1)
  | false ↦ any-filter_none p q xs (or_parts (q x) (list_any q xs) h).1
]

pub filter_map-next : {X Y : Type 0} (h : X → Option Y) (xs : List X) (i : ℕ) (d : X) → i < length xs → filter_map h (take (i + 1) xs) ≡ filter_map h (take i xs) ++ cons_option (h (get_or xs i d)) []
filter_map-next h xs i d within = ap (filter_map h) (take_more xs i d within) ∙ filter_map-append h (take i xs) (get_or xs i d ∷ [])

-- ---- copies of one item, and items set

pub map-replicate : {X Y : Type 0} (f : X → Y) (n : ℕ) (x : X) → map f (replicate n x) ≡ replicate n (f x)
map-replicate f zero x = refl
map-replicate f (suc n) x = ap (λ ys. f x ∷ ys) (map-replicate f n x)

pub get_or-zeros : (n i : ℕ) → ◌≡◌ {A = ℕ} (get_or (replicate n 0) i 0) 0
get_or-zeros zero i = refl
get_or-zeros (suc n) zero = refl
get_or-zeros (suc n) (suc i) = get_or-zeros n i

-- a list that says f at each place but q says it everywhere, once f q is set there
pub get_or-set_as : (xs : List ℕ) (q v p : ℕ) (f : ℕ → ℕ) → q < length xs → v ≡ f q → ((q == p) ≡ false → get_or xs p 0 ≡ f p) → get_or (set xs q v) p 0 ≡ f p
get_or-set_as xs q v p f within here elsewhere =
    elim (q == p) as (λ b. (q == p) ≡ b → get_or (set xs q v) p 0 ≡ f p) [
      | true ↦ λ e. subst (λ x. get_or (set xs q v) x 0 ≡ f x) (eqb-true q p e) (get_or-set_same xs q v 0 within ∙ here)
      | false ↦ λ e. (let apart : p ≢ q = λ same. (let t = eq-eqb q p (sym same) in absurd (cc)) in get_or-set_other xs q p v 0 apart ∙ elsewhere e)
    ] refl

-- ---- equal bytes

pub bytes_eq-sym : (a b : List ℕ) → bytes_eq a b ≡ bytes_eq b a
bytes_eq-sym a b = grind (arith, bytes_eq-Decides a b, bytes_eq-Decides b a)
