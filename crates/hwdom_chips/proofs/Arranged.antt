-- A list that a sort has put in order is the list in order whose members stand in it equally often.
use Rattle.std.proofs.Common.{◌≡◌, ℕ, suc, ◌+◌, ◌<◌, true, false, cond, Option, None, Some, List, [], ◌∷◌, get_or, filter_map, sum_by, IsPermutation, IsSorted, refl, sym, ap, subst, ◌∙◌, arith}
use Rattle.std.specs.List.{cons_option}
use Rattle.std.specs.Ordering.{is_eq, is_gt, is_lt, eq_by_cmp}
use Rattle.std.specs.Cmp.{IsTotalOrder}
use Rattle.std.specs.declared.cmp.Ordering.{Ordering}
use Rattle.std.specs.declared.cmp.Ordering.TheVariants.{Equal}
use Rattle.std.proofs.lemmas.Cmp.{upto, tied_itself}
use Rattle.std.proofs.lemmas.List.Sorted.{sum_by-IsPermutation}
use Rattle.std.proofs.lemmas.List.Recursion.{is_sum_by}
use Rattle.lemmas.proofs.Orders.{is_gt-reverse, is_eq-true, Equal_from_neither}
use Rattle.lemmas.proofs.Tests.{by_test}

module _ {K : Type 0} (R : K → K → Ordering) where
  abbrev pub hit : K → K → ℕ
  hit q k = cond (eq_by_cmp R q k) 1 0

  -- how often this stands in the list
  abbrev pub times : K → List K → ℕ
  times q [] = 0
  times q (k ∷ ks) = hit q k + times q ks

  -- nothing in the list is below k
  abbrev pub Low : K → List K → Type 0
  Low k ks = (q : K) → 0 < times q ks → is_gt (R k q) ≡ false

  abbrev pub Ascends : List K → Type 0
  Ascends [] = Unit {0}
  Ascends (k ∷ ks) = Low k ks × Ascends ks

  times-sum : (q : K) (ks : List K) → times q ks ≡ sum_by (hit q) ks
  times-sum q ks = is_sum_by (times q) (hit q) refl (λ _ _. refl) ks

  times-moved : (q : K) (xs ys : List K) → IsPermutation xs ys → times q xs ≡ times q ys
  times-moved q xs ys moved = times-sum q xs ∙ sym (sum_by-IsPermutation (hit q) xs ys moved) ∙ sym (times-sum q ys)

  module _ {X : Type 0} (f : X → Option K) where
    abbrev given : K → X → ℕ
    given q x = times q (cons_option (f x) [])

    times-option : (q : K) (r : Option K) (ks : List K) → times q (cons_option r ks) ≡ times q (cons_option r []) + times q ks
    times-option q None ks = omega arith
    times-option q (Some k) ks = omega arith

    times-given : (q : K) (xs : List X) → times q (filter_map f xs) ≡ sum_by (given q) xs
    times-given q xs = is_sum_by (λ (l : List X). times q (filter_map f l)) (given q) refl (λ x l. times-option q (f x) (filter_map f l)) xs

    -- what comes of a list that is in another order comes equally often
    pub given-moved : (q : K) (xs ys : List X) → IsPermutation xs ys → times q (filter_map f xs) ≡ times q (filter_map f ys)
    given-moved q xs ys moved = times-given q xs ∙ sym (sum_by-IsPermutation (given q) xs ys moved) ∙ sym (times-given q ys)

  module _ (o : IsTotalOrder R) (exact : (x y : K) → R x y ≡ Equal → x ≡ y) where
    same : (x y : K) → eq_by_cmp R x y ≡ true → x ≡ y
    same x y e = exact x y (is_eq-true _ e)

    not_lt_back : (x y : K) → is_lt (R y x) ≡ false → is_gt (R x y) ≡ false
    not_lt_back x y e = ap is_gt (o.antisymm x y) ∙ is_gt-reverse (R y x) ∙ e

    pub low_more : (k x : K) (ks : List K) → is_gt (R k x) ≡ false → Low k ks → Low k (x ∷ ks)
    low_more k x ks here rest q there =
        by_test (eq_by_cmp R q x)
        (λ is. subst (λ y. is_gt (R k y) ≡ false) (sym (same q x is)) here)
        (λ other. (let none : hit q x ≡ 0 = ap (λ b. cond b 1 0) other in rest q (omega arith)))

    ascends_from : (ks : List K) → IsSorted R ks → Ascends ks
    ascends_from [] h = tt
    ascends_from (k ∷ []) h = (λ q there. absurd (omega arith), tt)
    ascends_from (k ∷ x ∷ ks) h =
        let first : is_gt (R k x) ≡ false = not_lt_back k x (h 0 k (omega arith) (omega arith)) in
        let rest : Ascends (x ∷ ks) = ascends_from (x ∷ ks)
        (λ i d _ lt.
        let next : suc i + 1 ≡ suc (i + 1) = omega arith in
        subst (λ (n : ℕ). is_lt (R (get_or (k ∷ x ∷ ks) n d) (get_or (x ∷ ks) i d)) ≡ false) next (h (suc i) d (omega arith) (omega arith))) in
        (low_more k x ks first (λ q there. upto o k x q first (rest.0 q there)), rest)

    hit_self : (k : K) → hit k k ≡ 1
    hit_self k = ap (λ r. cond (is_eq r) 1 0) (tied_itself o k)

    self_not_gt : (k : K) → is_gt (R k k) ≡ false
    self_not_gt k = ap is_gt (tied_itself o k)

    unique : (ys zs : List K) → Ascends ys → Ascends zs → ((q : K) → times q ys ≡ times q zs) → ys ≡ zs
    unique [] [] s t all = refl
    unique [] (z ∷ zs) s t all = (let one = hit_self z in let none = all z in absurd (omega arith))
    unique (y ∷ ys) [] s t all = (let one = hit_self y in let none = all y in absurd (omega arith))
    unique (y ∷ ys) (z ∷ zs) s t all =
        let one_y = hit_self y in
        let one_z = hit_self z in
        let at_y = all y in
        let at_z = all z in
        let low_y : is_gt (R y z) ≡ false = low_more y y ys (self_not_gt y) s.0 z (omega arith) in
        let low_z : is_gt (R z y) ≡ false = low_more z z zs (self_not_gt z) t.0 y (omega arith) in
        let is : y ≡ z = exact y z (Equal_from_neither (R y z) low_y (ap is_gt (sym (o.antisymm z y)) ∙ low_z)) in
        let rest : ys ≡ zs = unique ys zs s.1 t.1 (λ q. (let h : hit q y ≡ hit q z = ap (hit q) is in let every = all q in omega arith)) in
        λ i. is i ∷ rest i

    pub arranged : (xs ys zs : List K) → IsPermutation xs ys → IsSorted R ys → Ascends zs → ((q : K) → times q xs ≡ times q zs) → ys ≡ zs
    arranged xs ys zs moved sorted ascends all = unique ys zs (ascends_from ys sorted) ascends (λ q. sym (times-moved q xs ys moved) ∙ all q)
