-- Lists: parts of them, ascending ones, and distinct ones.
use Rattle.std.proofs.Common.{◌≡◌, ℕ, zero, suc, ◌<◌, ◌≤◌, Bool, true, false, cond, List, [], ◌∷◌, ◌++◌, map, drop, length, Option, None, Some, refl, sym, ap, ◌∙◌, arith, subst}
use Rattle.std.specs.Prelude.{◌||◌}
use Rattle.std.specs.List.{AllByRecursion, All, IsDistinct, filter, find, last_or, list_all, slice_get}
use Rattle.std.specs.List.Sorted.{IsStrictlySortedBy}
use Rattle.std.specs.Ordering.{nat_cmp, eq_by_cmp, match_ordering, ordering_reverse}
use Rattle.std.specs.BTreeSet.{insert_key}
use Rattle.std.specs.Cmp.{IsTotalOrder, nat_cmp_is, second_so, unsigned_tied}
use Rattle.std.specs.declared.cmp.Ordering.{Ordering}
use Rattle.std.specs.declared.cmp.Ordering.TheVariants.{Less, Equal, Greater}
use Rattle.std.proofs.lemmas.Bool.{eqb-true, eq-eqb, or_left, or_right}
use Rattle.std.proofs.lemmas.List.Elements.{All-from_recursion, recursion_from_All}
use Rattle.std.proofs.lemmas.Option.{same_Some}
use Rattle.lemmas.proofs.Orders.{lt_from_nat_cmp}
use Rattle.br_model.specs.Data.Maps.{has}

-- what is left of a list passes as well
pub list_all-drop : {X : Type 0} (p : X → Bool) (n : ℕ) (xs : List X) → list_all p xs ≡ true → list_all p (drop n xs) ≡ true
list_all-drop p zero xs h = h
list_all-drop p (suc n) [] h = refl
list_all-drop p (suc n) (x ∷ xs) h = list_all-drop p n xs (second_so (p x) (list_all p xs) h)

-- A list with some elements left out.

pub data Part {X : Type 0} : List X → List X → Type 0 where
  none : Part [] []
  left : {xs ys : List X} (y : X) → Part xs ys → Part xs (y ∷ ys)
  kept : {xs ys : List X} (y : X) → Part xs ys → Part (y ∷ xs) (y ∷ ys)

pub part-same : {X : Type 0} (xs : List X) → Part xs xs
part-same [] = none
part-same (x ∷ xs) = kept x (part-same xs)

pub part-front : {X : Type 0} (xs : List X) (ys zs : List X) → Part ys zs → Part (xs ++ ys) (xs ++ zs)
part-front [] ys zs p = p
part-front (x ∷ xs) ys zs p = kept x (part-front xs ys zs p)

-- one element is left out
pub part-middle : {X : Type 0} (xs : List X) (y : X) (ys : List X) → Part (xs ++ ys) (xs ++ y ∷ ys)
part-middle xs y ys = part-front xs ys (y ∷ ys) (left y (part-same ys))

pub part-filter : {X Y : Type 0} (f : X → Y) (p : X → Bool) (xs : List X) (ys : List Y) → Part (map f (filter p xs) ++ ys) (map f xs ++ ys)
part-filter f p [] ys = part-same ys
part-filter f p (x ∷ xs) ys =
    elim (p x) as (λ b. Part (map f (cond b (x ∷ filter p xs) (filter p xs)) ++ ys) (f x ∷ (map f xs ++ ys))) [ true ↦ kept (f x) (part-filter f p xs ys) | false ↦ left (f x) (part-filter f p xs ys) ]

pub length-part : {X : Type 0} {xs ys : List X} → Part xs ys → length xs ≤ length ys
length-part none = omega arith
length-part (left y p) = let h = length-part p in omega arith
length-part (kept y p) = let h = length-part p in omega arith

each-part : {X : Type 0} (P : X → Type 0) {xs ys : List X} → Part xs ys → AllByRecursion P ys → AllByRecursion P xs
each-part P none h = tt
each-part P (left y p) h = each-part P p h.1
each-part P (kept y p) h = (h.0, each-part P p h.1)

pub all-part : {X : Type 0} (P : X → Type 0) (xs ys : List X) → Part xs ys → All P ys → All P xs
all-part P xs ys p h = All-from_recursion P xs (each-part P p (recursion_from_All P ys h))

pub map-part : {X Y : Type 0} (f : X → Y) {xs ys : List X} → Part xs ys → Part (map f xs) (map f ys)
map-part f none = none
map-part f (left y p) = left (f y) (map-part f p)
map-part f (kept y p) = kept (f y) (map-part f p)

pub distinct-part : {X : Type 0} (e : X → X → Bool) {xs ys : List X} → Part xs ys → IsDistinct e ys → IsDistinct e xs
unfolding IsDistinct
distinct-part e none h = tt
distinct-part e (left y p) h = distinct-part e p h.1
distinct-part e (kept y p) h = (each-part (λ x. e y x ≡ false) p h.0, distinct-part e p h.1)

-- Ascending numbers.

same_last : (x m : ℕ) → Some x ≡ Some m → x ≤ m
same_last x m e = let is : x ≡ m = cc in omega arith

below-last : (x m : ℕ) (xs : List ℕ) → AllByRecursion (λ y. nat_cmp x y ≡ Less) xs → IsStrictlySortedBy nat_cmp xs → last_or (Some x) xs ≡ Some m → (x ≤ m) × AllByRecursion (λ y. y ≤ m) xs
unfolding IsStrictlySortedBy
below-last x m [] h s e = (same_last x m e, tt)
below-last x m (y ∷ ys) h s e =
    let rest = below-last y m ys s.0 s.1 e in
    (omega (arith, lt_from_nat_cmp x y h.0, rest.0), rest)

-- none is above the last one
pub up-to-last : (m : ℕ) (xs : List ℕ) → IsStrictlySortedBy nat_cmp xs → last_or None xs ≡ Some m → AllByRecursion (λ y. y ≤ m) xs
unfolding IsStrictlySortedBy
up-to-last m [] s e = tt
up-to-last m (x ∷ xs) s e = below-last x m xs s.0 s.1 e

above-all : (n m : ℕ) (xs : List ℕ) → m < n → AllByRecursion (λ y. y ≤ m) xs → IsStrictlySortedBy nat_cmp xs → IsStrictlySortedBy nat_cmp (xs ++ n ∷ [])
unfolding IsStrictlySortedBy
above-all n m [] less h s = (tt, tt)
above-all n m (x ∷ xs) less h s = (below x xs s.0 (sym (nat_cmp_is x n Less (omega (arith, h.0)))), above-all n m xs less h.1 s.1)
  where
    below : (x : ℕ) (ys : List ℕ) → AllByRecursion (λ y. nat_cmp x y ≡ Less) ys → nat_cmp x n ≡ Less → AllByRecursion (λ y. nat_cmp x y ≡ Less) (ys ++ n ∷ [])
    below x [] h e = (e, tt)
    below x (y ∷ ys) h e = (h.0, below x ys h.1 e)

pub ascend-push : (n m : ℕ) (xs : List ℕ) → m < n → IsStrictlySortedBy nat_cmp xs → last_or None xs ≡ Some m → IsStrictlySortedBy nat_cmp (xs ++ n ∷ [])
ascend-push n m xs less s e = above-all n m xs less (up-to-last m xs s e) s

pub last-push : {X : Type 0} (o : Option X) (n : X) (xs : List X) → last_or o (xs ++ n ∷ []) ≡ Some n
last-push o n [] = refl
last-push o n (x ∷ xs) = last-push (Some x) n xs

pub first-push : {X : Type 0} (a n : X) (xs : List X) → slice_get xs 0 ≡ Some a → slice_get (xs ++ n ∷ []) 0 ≡ Some a
first-push a n [] e = absurd (cc)
first-push a n (x ∷ xs) e = e

pub has-push : (q n : ℕ) (xs : List ℕ) → has nat_cmp xs q ≡ true → has nat_cmp (xs ++ n ∷ []) q ≡ true
has-push q n [] h = absurd (cc)
has-push q n (x ∷ xs) h =
    (elim (eq_by_cmp nat_cmp q x) as (λ b. (b || has nat_cmp xs q) ≡ true → (b || has nat_cmp (xs ++ n ∷ []) q) ≡ true) [ true ↦ λ e. refl | false ↦ λ e. has-push q n xs e ]) h

-- the last one is a member
pub has-last : (x m : ℕ) (xs : List ℕ) → last_or (Some x) xs ≡ Some m → has nat_cmp (x ∷ xs) m ≡ true
has-last x m [] e =
    let is : m ≡ x = cc in
    or_left (eq_by_cmp nat_cmp m x) false (unsigned_tied m x ∙ eq-eqb m x is)
has-last x m (y ∷ ys) e = or_right (eq_by_cmp nat_cmp m x) _ (has-last y m ys e)

pub last-has : (m : ℕ) (xs : List ℕ) → last_or None xs ≡ Some m → has nat_cmp xs m ≡ true
last-has m [] e = absurd (cc)
last-has m (x ∷ xs) e = has-last x m xs e

-- a member is no greater than the last one
pub has-up-to : (q m : ℕ) (xs : List ℕ) → AllByRecursion (λ y. y ≤ m) xs → has nat_cmp xs q ≡ true → q ≤ m
has-up-to q m [] h e = absurd (cc)
has-up-to q m (x ∷ xs) h e =
    (elim (eq_by_cmp nat_cmp q x) as (λ b. eq_by_cmp nat_cmp q x ≡ b → (b || has nat_cmp xs q) ≡ true → q ≤ m) [
      | true ↦ λ same f. let is : q ≡ x = eqb-true q x (sym (unsigned_tied q x) ∙ same) in omega (arith, h.0)
      | false ↦ λ other f. has-up-to q m xs h.1 f
    ]) refl e

-- Sets.

module _ {K : Type 0} (R : K → K → Ordering) (o : IsTotalOrder R) where
  below-insert : (x k : K) (xs : List K) → AllByRecursion (λ y. R x y ≡ Less) xs → R x k ≡ Less → AllByRecursion (λ y. R x y ≡ Less) (insert_key R xs k)
  below-insert x k [] h less = (less, tt)
  below-insert x k (y ∷ ys) h less =
      elim (R k y) as (λ r. AllByRecursion (λ z. R x z ≡ Less) (match_ordering r (k ∷ y ∷ ys) (y ∷ ys) (y ∷ insert_key R ys k))) [
        | Less ↦ (less, h)
        | Equal ↦ h
        | Greater ↦ (h.0, below-insert x k ys h.1 less)
      ]

  below-first : (k y : K) (ys : List K) → R k y ≡ Less → AllByRecursion (λ z. R y z ≡ Less) ys → AllByRecursion (λ z. R k z ≡ Less) ys
  below-first k y [] less h = tt
  below-first k y (z ∷ zs) less h = (o.trans k y z less h.0, below-first k y zs less h.1)

  pub ascend-insert : (k : K) (xs : List K) → IsStrictlySortedBy R xs → IsStrictlySortedBy R (insert_key R xs k)
  unfolding IsStrictlySortedBy
  ascend-insert k [] h = (tt, tt)
  ascend-insert k (x ∷ xs) h =
      (elim (R k x) as (λ r. R k x ≡ r → IsStrictlySortedBy R (match_ordering r (k ∷ x ∷ xs) (x ∷ xs) (x ∷ insert_key R xs k))) [
        | Less ↦ λ e. ((e, below-first k x xs e h.0), h)
        | Equal ↦ λ e. h
        | Greater ↦ λ e. (below-insert x k xs h.0 (o.antisymm x k ∙ ap ordering_reverse e), ascend-insert k xs h.1)
      ]) refl

-- What is found.

pub find-each : {X : Type 0} (P : X → Type 0) (p : X → Bool) (xs : List X) (x : X) → AllByRecursion P xs → find p xs ≡ Some x → P x
find-each P p [] x h e = absurd (cc)
find-each P p (y ∷ ys) x h e =
    (elim (p y) as (λ b. cond b (Some y) (find p ys) ≡ Some x → P x) [
      | true ↦ λ is. subst P (same_Some y x is) h.0
      | false ↦ λ is. find-each P p ys x h.1 is
    ]) e
