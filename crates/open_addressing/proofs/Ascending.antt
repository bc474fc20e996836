-- Lists of keys: two sorted lists that have the same keys are equal, and so a sort gives the keys of entries in order.
use Rattle.std.proofs.Common.{◌≡◌, ℕ, zero, suc, ◌+◌, ◌<◌, Bool, true, false, cond, Option, None, Some, List}
use Rattle.std.proofs.Common.{[], ◌∷◌, get_or, map, filter, filter_map, IsPermutation, IsSorted, refl, sym, ap, subst, ◌∙◌, arith}
use Rattle.std.specs.List.{cons_option}
use Rattle.std.specs.Ordering.{is_eq, is_gt, is_lt, eq_by_cmp, nat_cmp}
use Rattle.std.specs.declared.cmp.Ordering.{Ordering}
use Rattle.std.specs.declared.cmp.Ordering.TheVariants.{Less, Equal, Greater}
use Rattle.std.specs.Cmp.{first_so, second_so}
use Rattle.std.proofs.lemmas.Cmp.{upto, tied_itself, nat_cmp_total}
use Rattle.std.proofs.lemmas.List.Sorted.{sum_by-IsPermutation}
use Rattle.std.proofs.lemmas.List.Recursion.{is_sum_by}
use Rattle.std.proofs.lemmas.Map.Lookups.{exact_unsigned}
use Rattle.std.specs.FinMap.Entries.{find, put, below_all, by_order, is_sorted}
use Rattle.lemmas.proofs.Orders.{is_gt-reverse, eq_by_cmp-true, Equal_from_neither}
use Rattle.lemmas.proofs.Tests.{true_from_T, by_test}
use Rattle.open_addressing.specs.Zipped.{key_of}
use Rattle.open_addressing.specs.Lookups.{IsApart}
use Rattle.open_addressing.specs.Finite.{entries_of, keys_where, key_if}
use Rattle.open_addressing.proofs.Entries.{sorted-entries_of, apart-tail, alone}

abbrev pub hit : ℕ → ℕ → ℕ
hit q k = cond (eq_by_cmp nat_cmp q k) 1 0

-- how often the key stands in the list
abbrev pub times : ℕ → List ℕ → ℕ
times q [] = 0
times q (k ∷ ks) = hit q k + times q ks

times-permutation : (q : ℕ) (xs ys : List ℕ) → IsPermutation xs ys → times q xs ≡ times q ys
times-permutation q xs ys moved =
    is_sum_by (times q) (hit q) refl (λ _ _. refl) xs ∙ sym (sum_by-IsPermutation (hit q) xs ys moved) ∙ sym (is_sum_by (times q) (hit q) refl (λ _ _. refl) ys)

-- no key of the list is below k
abbrev Low : ℕ → List ℕ → Type 0
Low k ks = (q : ℕ) → 0 < times q ks → is_gt (nat_cmp k q) ≡ false

abbrev Ascends : List ℕ → Type 0
Ascends [] = Unit {0}
Ascends (k ∷ ks) = Low k ks × Ascends ks

not_gt : (r : Ordering) → is_lt r ≡ true → is_gt r ≡ false
not_gt Less e = refl
not_gt Equal e = absurd (cc)
not_gt Greater e = absurd (cc)

not_lt_back : (x y : ℕ) → is_lt (nat_cmp y x) ≡ false → is_gt (nat_cmp x y) ≡ false
not_lt_back x y e = ap is_gt (nat_cmp_total.antisymm x y) ∙ is_gt-reverse (nat_cmp y x) ∙ e

-- one more key at the front
low_more : (k x : ℕ) (ks : List ℕ) → is_gt (nat_cmp k x) ≡ false → ((q : ℕ) → 0 < times q ks → is_gt (nat_cmp k q) ≡ false) → Low k (x ∷ ks)
low_more k x ks here rest q there =
    by_test (eq_by_cmp nat_cmp q x)
    (λ same. subst (λ y. is_gt (nat_cmp k y) ≡ false) (sym (eq_by_cmp-true q x same)) here)
    (λ apart_q. (let none : hit q x ≡ 0 = ap (λ b. cond b 1 0) apart_q in rest q (omega arith)))

ascends_from : (ks : List ℕ) → IsSorted nat_cmp ks → Ascends ks
ascends_from [] h = tt
ascends_from (k ∷ []) h = (λ q there. absurd (omega arith), tt)
ascends_from (k ∷ x ∷ ks) h =
    let first : is_gt (nat_cmp k x) ≡ false = not_lt_back k x (h 0 k (omega arith) (omega arith)) in
    let rest : Ascends (x ∷ ks) = ascends_from (x ∷ ks)
    (λ i d _ lt.
    let next : suc i + 1 ≡ suc (i + 1) = omega arith in
    subst (λ (n : ℕ). is_lt (nat_cmp (get_or (k ∷ x ∷ ks) n d) (get_or (x ∷ ks) i d)) ≡ false) next (h (suc i) d (omega arith) (omega arith))) in
    (low_more k x ks first (λ q there. upto nat_cmp_total k x q first (rest.0 q there)), rest)

hit_self : (k : ℕ) → hit k k ≡ 1
hit_self k = ap (λ r. cond (is_eq r) 1 0) (tied_itself nat_cmp_total k)

self_not_gt : (k : ℕ) → is_gt (nat_cmp k k) ≡ false
self_not_gt k = ap is_gt (tied_itself nat_cmp_total k)

-- two lists in order with the same keys are equal
unique : (ys zs : List ℕ) → Ascends ys → Ascends zs → ((q : ℕ) → times q ys ≡ times q zs) → ys ≡ zs
unique [] [] s t same = refl
unique [] (z ∷ zs) s t same = (let one = hit_self z in let none = same z in absurd (omega arith))
unique (y ∷ ys) [] s t same = (let one = hit_self y in let none = same y in absurd (omega arith))
unique (y ∷ ys) (z ∷ zs) s t same =
    let one_y = hit_self y in
    let one_z = hit_self z in
    let at_y = same y in
    let at_z = same z in
    let low_y : is_gt (nat_cmp y z) ≡ false = low_more y y ys (self_not_gt y) s.0 z (omega arith) in
    let low_z : is_gt (nat_cmp z y) ≡ false = low_more z z zs (self_not_gt z) t.0 y (omega arith) in
    let is : y ≡ z = exact_unsigned y z (Equal_from_neither (nat_cmp y z) low_y (ap is_gt (sym (nat_cmp_total.antisymm z y)) ∙ low_z)) in
    let rest : ys ≡ zs = unique ys zs s.1 t.1 (λ q. (let h : hit q y ≡ hit q z = ap (hit q) is in let all = same q in omega arith)) in
    λ i. is i ∷ rest i

module _ {V : Type 0} (p : V → Bool) where
  -- the keys of entries in order
  low_keys : (k : ℕ) (es : List (ℕ × V)) → below_all nat_cmp k es ≡ true → Low k (keys_where p es)
  low_keys k [] below = λ q there. absurd (omega arith)
  low_keys k (e ∷ es) below =
      let rest = low_keys k es (second_so _ _ below) in
      elim (p e.1) as (λ b. Low k (map (λ (x : ℕ × V). x.0) (cond b (e ∷ filter (λ (x : ℕ × V). p x.1) es) (filter (λ (x : ℕ × V). p x.1) es)))) [
        | true ↦ low_more k e.0 (keys_where p es) (not_gt _ (first_so _ _ below)) rest
        | false ↦ rest
      ]

  ascends-keys_where : (es : List (ℕ × V)) → is_sorted nat_cmp es ≡ true → Ascends (keys_where p es)
  ascends-keys_where [] sorted = tt
  ascends-keys_where (e ∷ es) sorted =
      let rest = ascends-keys_where es (second_so _ _ sorted) in
      elim (p e.1) as (λ b. Ascends (map (λ (x : ℕ × V). x.0) (cond b (e ∷ filter (λ (x : ℕ × V). p x.1) es) (filter (λ (x : ℕ × V). p x.1) es)))) [
        | true ↦ (low_keys e.0 es (first_so _ _ sorted), rest)
        | false ↦ rest
      ]

  times-first : (q : ℕ) (e : ℕ × V) (es : List (ℕ × V)) → times q (keys_where p (e ∷ es)) ≡ cond (p e.1) (hit q e.0) 0 + times q (keys_where p es)
  times-first q e es =
      elim (p e.1) as (λ b. times q (map (λ (x : ℕ × V). x.0) (cond b (e ∷ filter (λ (x : ℕ × V). p x.1) es) (filter (λ (x : ℕ × V). p x.1) es))) ≡ cond b (hit q e.0) 0 + times q (keys_where p es)) [
        | true ↦ refl
        | false ↦ omega arith
      ]

  times-put : (q k : ℕ) (x : V) (es : List (ℕ × V)) → find nat_cmp k es ≡ None → times q (keys_where p (put nat_cmp k x es)) ≡ cond (p x) (hit q k) 0 + times q (keys_where p es)
  times-put q k x [] none = times-first q (k, x) []
  times-put q k x (f ∷ es) none =
      elim (nat_cmp k f.0) as (λ r. nat_cmp k f.0 ≡ r
      → times q (keys_where p (by_order r ((k, x) ∷ f ∷ es) ((f.0, x) ∷ es) (f ∷ put nat_cmp k x es))) ≡ cond (p x) (hit q k) 0 + times q (keys_where p (f ∷ es))) [
        | Less ↦ λ is. times-first q (k, x) (f ∷ es)
        | Equal ↦ λ is. (let some : Some f.1 ≡ None = sym (ap (λ r. cond (is_eq r) (Some f.1) (find nat_cmp k es)) is) ∙ none in absurd (cc))
        | Greater ↦ λ is.
            let later = times-put q k x es (sym (ap (λ r. cond (is_eq r) (Some f.1) (find nat_cmp k es)) is) ∙ none) in
            let left = times-first q f (put nat_cmp k x es) in
            let right = times-first q f es in
            omega arith
      ] refl

  times-option : (q k : ℕ) (b : Bool) (ks : List ℕ) → times q (cons_option (cond b (Some k) None) ks) ≡ cond b (hit q k) 0 + times q ks
  times-option q k true ks = refl
  times-option q k false ks = omega arith

  times-with : (q k : ℕ) (v : V) (cs : List (Option (ℕ × V))) → IsApart key_of (Some (k, v) ∷ cs) → times q (filter_map (key_if p) cs) ≡ times q (keys_where p (entries_of cs))
      → times q (filter_map (key_if p) (Some (k, v) ∷ cs)) ≡ times q (keys_where p (entries_of (Some (k, v) ∷ cs)))
  times-with q zero v cs apart rest = rest
  times-with q (suc k) v cs apart rest =
      let left = times-option q (suc k) (p v) (filter_map (key_if p) cs) in
      let right = times-put q (suc k) v (entries_of cs) (alone k v cs apart) in
      left ∙ ap (λ n. cond (p v) (hit q (suc k)) 0 + n) rest ∙ sym right

  times-cells : (q : ℕ) (cs : List (Option (ℕ × V))) → IsApart key_of cs → times q (filter_map (key_if p) cs) ≡ times q (keys_where p (entries_of cs))
  times-cells q [] apart = refl
  times-cells q (None ∷ cs) apart = times-cells q cs (apart-tail None cs apart)
  times-cells q (Some e ∷ cs) apart = times-with q e.0 e.1 cs apart (times-cells q cs (apart-tail (Some e) cs apart))

  -- the keys of the cells, once they are sorted
  pub sorted_keys : (cs : List (Option (ℕ × V))) (ks ys : List ℕ) → IsApart key_of cs → ks ≡ filter_map (key_if p) cs → IsPermutation ks ys → IsSorted nat_cmp ys → ys ≡ keys_where p (entries_of cs)
  sorted_keys cs ks ys apart is moved sorted =
      unique ys (keys_where p (entries_of cs)) (ascends_from ys sorted) (ascends-keys_where (entries_of cs) (true_from_T _ (sorted-entries_of cs)))
      (λ q. sym (times-permutation q ks ys moved) ∙ ap (times q) is ∙ times-cells q cs apart)
