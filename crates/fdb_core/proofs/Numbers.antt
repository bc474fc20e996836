-- Numbers in order, none of them twice, that are the keys of the entries that pass, are the list of those.
use Rattle.std.proofs.Common.{◌≡◌, ℕ, suc, ◌<◌, ◌≤◌, Bool, true, false, cond, eqb, ◌&&◌, ◌||◌, Option, None}
use Rattle.std.proofs.Common.{Some, List, [], ◌∷◌, map, filter, IsPermutation, IsSorted, refl, sym, ap, subst, ◌∙◌, arith}
use Rattle.std.specs.List.{list_any, dedup, dedup_from}
use Rattle.std.specs.List.Retain.{IsFiltered, DiffersFromLast}
use Rattle.std.specs.Ordering.{is_lt, eq_by_cmp, nat_cmp}
use Rattle.std.specs.Cmp.{first_so, second_so, nat_cmp_is}
use Rattle.std.specs.List.Sorted.{IsNonDecreasingBy}
use Rattle.std.proofs.lemmas.Bool.{eqb-true, and_from as both}
use Rattle.std.proofs.lemmas.Cmp.{nat_cmp_total}
use Rattle.std.proofs.lemmas.List.Filters.{dedup_is}
use Rattle.std.proofs.lemmas.List.Sorted.{IsNonDecreasingBy-from_sort, list_any-IsPermutation}
use Rattle.std.proofs.lemmas.Map.Lookups.{exact_unsigned}
use Rattle.std.specs.FinMap.Entries.{find, below_all, is_sorted, same_entries}
use Rattle.std.proofs.lemmas.Float.{T_from_true}
use Rattle.lemmas.proofs.Numbers.{ne_from_eqb}
use Rattle.lemmas.proofs.Tests.{or_twice, by_test}
use Rattle.open_addressing.specs.Finite.{keys_where}
use Rattle.fdb_core.proofs.Lookups.{find_past}

abbrev pub is_among : ℕ → List ℕ → Bool
is_among q ns = list_any (λ n. eq_by_cmp nat_cmp q n) ns

-- numbers as entries without values
abbrev bare : List ℕ → List (ℕ × ℕ)
bare ns = map (λ n. (n, 0)) ns

find-bare : (q : ℕ) (ns : List ℕ) → find nat_cmp q (bare ns) ≡ cond (is_among q ns) (Some 0) None
find-bare q [] = refl
find-bare q (n ∷ ns) =
    elim (eq_by_cmp nat_cmp q n) as (λ b. cond b (Some 0) (find nat_cmp q (bare ns)) ≡ cond (b || is_among q ns) (Some 0) None) [
      | true ↦ refl
      | false ↦ find-bare q ns
    ]

keys-bare : (ns : List ℕ) → map (λ (e : ℕ × ℕ). e.0) (bare ns) ≡ ns
keys-bare [] = refl
keys-bare (n ∷ ns) = ap (λ (rest : List ℕ). n ∷ rest) (keys-bare ns)

same_numbers : (ms ns : List ℕ) → is_sorted nat_cmp (bare ms) ≡ true → is_sorted nat_cmp (bare ns) ≡ true → ((q : ℕ) → is_among q ms ≡ is_among q ns) → ms ≡ ns
same_numbers ms ns left right same =
    sym (keys-bare ms)
    ∙ ap (map (λ (e : ℕ × ℕ). e.0))
    (same_entries nat_cmp nat_cmp_total exact_unsigned (bare ms) (bare ns) (T_from_true _ left) (T_from_true _ right) (λ q. find-bare q ms ∙ ap (λ b. cond b (Some 0) None) (same q)
    ∙ sym (find-bare q ns)))
    ∙ keys-bare ns

-- the keys of the entries that pass

abbrev pub passes : {V : Type 0} → (V → Bool) → Option V → Bool
passes t None = false
passes t (Some v) = t v

module _ {V : Type 0} (t : V → Bool) where
  below-passing : (k : ℕ) (es : List (ℕ × V)) → below_all nat_cmp k es ≡ true → below_all nat_cmp k (bare (keys_where t es)) ≡ true
  below-passing k [] h = refl
  below-passing k (e ∷ es) h =
      let rest = below-passing k es (second_so _ _ h) in
      elim (t e.1) as (λ b. below_all nat_cmp k (bare (map (λ (x : ℕ × V). x.0) (cond b (e ∷ filter (λ (x : ℕ × V). t x.1) es) (filter (λ (x : ℕ × V). t x.1) es)))) ≡ true) [
        | true ↦ both _ _ (first_so _ _ h) rest
        | false ↦ rest
      ]

  sorted-passing : (es : List (ℕ × V)) → is_sorted nat_cmp es ≡ true → is_sorted nat_cmp (bare (keys_where t es)) ≡ true
  sorted-passing [] h = refl
  sorted-passing (e ∷ es) h =
      let rest = sorted-passing es (second_so _ _ h) in
      elim (t e.1) as (λ b. is_sorted nat_cmp (bare (map (λ (x : ℕ × V). x.0) (cond b (e ∷ filter (λ (x : ℕ × V). t x.1) es) (filter (λ (x : ℕ × V). t x.1) es)))) ≡ true) [
        | true ↦ both _ _ (below-passing e.0 es (first_so _ _ h)) rest
        | false ↦ rest
      ]

  among-first : (q : ℕ) (e : ℕ × V) (es : List (ℕ × V)) → is_among q (keys_where t (e ∷ es)) ≡ ((t e.1 && eq_by_cmp nat_cmp q e.0) || is_among q (keys_where t es))
  among-first q e es =
      elim (t e.1) as
      (λ b. is_among q
      (map (λ (x : ℕ × V). x.0) (cond b (e ∷ filter (λ (x : ℕ × V). t x.1) es) (filter (λ (x : ℕ × V). t x.1) es))) ≡ ((b && eq_by_cmp nat_cmp q e.0) || is_among q (keys_where t es))) [
        | true ↦ refl
        | false ↦ refl
      ]

  first_only : (a b c : Bool) → b ≡ true → c ≡ false → ((a && b) || c) ≡ a
  first_only true b c x y = ap (λ z. z || c) x
  first_only false b c x y = y

  not_first : (a b c : Bool) → b ≡ false → ((a && b) || c) ≡ c
  not_first true b c x = ap (λ z. z || c) x
  not_first false b c x = refl

  among-passing : (q : ℕ) (es : List (ℕ × V)) → is_sorted nat_cmp es ≡ true → is_among q (keys_where t es) ≡ passes t (find nat_cmp q es)
  among-passing q [] h = refl
  among-passing q (e ∷ es) h =
      let rest = among-passing q es (second_so _ _ h) in
      among-first q e es
      ∙ by_test (eq_by_cmp nat_cmp q e.0)
      (λ so. first_only (t e.1) _ _ so (rest ∙ ap (passes t) (find_past q e es h so)) ∙ sym (ap (λ b. passes t (cond b (Some e.1) (find nat_cmp q es))) so))
      (λ not_so. not_first (t e.1) _ _ not_so ∙ rest ∙ sym (ap (λ b. passes t (cond b (Some e.1) (find nat_cmp q es))) not_so))

  pub passing : (ns : List ℕ) (es : List (ℕ × V)) → is_sorted nat_cmp es ≡ true → is_sorted nat_cmp (bare ns) ≡ true → ((q : ℕ) → is_among q ns ≡ passes t (find nat_cmp q es)) → ns ≡ keys_where t es
  passing ns es sorted rise same = same_numbers ns (keys_where t es) rise (sorted-passing es sorted) (λ q. same q ∙ sym (among-passing q es sorted))

-- a sort and then `dedup`

abbrev climbs : ℕ → List ℕ → Type 0
climbs k [] = Unit {0}
climbs k (x ∷ xs) = (k ≤ x) × climbs x xs

climbs_from : (k : ℕ) (xs : List ℕ) → IsNonDecreasingBy (λ x. x) (k ∷ xs) → climbs k xs
climbs_from k [] h = tt
climbs_from k (x ∷ xs) h = (h 0 1 0 (omega arith) (omega arith), climbs_from x xs (λ i j d le lt. h (suc i) (suc j) d (omega arith) (omega arith)))

lt_of : (a b : ℕ) → a < b → is_lt (nat_cmp a b) ≡ true
lt_of a b h = grind (arith, nat_cmp_is a b)

below-dedup : (b k : ℕ) (xs : List ℕ) → b < k → climbs k xs → below_all nat_cmp b (bare (dedup_from eqb k xs)) ≡ true
below-dedup b k [] lt h = both _ _ (lt_of b k lt) refl
below-dedup b k (x ∷ xs) lt h =
    elim (eqb x k) as (λ e. eqb x k ≡ e → below_all nat_cmp b (bare (cond e (dedup_from eqb k xs) (k ∷ dedup_from eqb x xs))) ≡ true) [
      | true ↦ λ so. below-dedup b k xs lt (subst (λ y. climbs y xs) (eqb-true x k so) h.1)
      | false ↦ λ not_so. both _ _ (lt_of b k lt) (below-dedup b x xs (let le = h.0 in omega arith) h.1)
    ] refl

sorted-dedup : (k : ℕ) (xs : List ℕ) → climbs k xs → is_sorted nat_cmp (bare (dedup_from eqb k xs)) ≡ true
sorted-dedup k [] h = refl
sorted-dedup k (x ∷ xs) h =
    elim (eqb x k) as (λ e. eqb x k ≡ e → is_sorted nat_cmp (bare (cond e (dedup_from eqb k xs) (k ∷ dedup_from eqb x xs))) ≡ true) [
      | true ↦ λ so. sorted-dedup k xs (subst (λ y. climbs y xs) (eqb-true x k so) h.1)
      | false ↦ λ not_so. both _ _ (below-dedup k x xs (let le = h.0 in let ne = ne_from_eqb x k not_so in omega arith) h.1) (sorted-dedup x xs h.1)
    ] refl

among-dedup : (q k : ℕ) (xs : List ℕ) → is_among q (dedup_from eqb k xs) ≡ is_among q (k ∷ xs)
among-dedup q k [] = refl
among-dedup q k (x ∷ xs) =
    elim (eqb x k) as (λ e. eqb x k ≡ e → is_among q (cond e (dedup_from eqb k xs) (k ∷ dedup_from eqb x xs)) ≡ is_among q (k ∷ x ∷ xs)) [
      | true ↦ λ so. among-dedup q k xs ∙ or_twice (eq_by_cmp nat_cmp q k) (is_among q xs) ∙ ap (λ y. eq_by_cmp nat_cmp q k || (eq_by_cmp nat_cmp q y || is_among q xs)) (sym (eqb-true x k so))
      | false ↦ λ not_so. ap (λ b. eq_by_cmp nat_cmp q k || b) (among-dedup q x xs)
    ] refl

sorted-all : (zs : List ℕ) → IsNonDecreasingBy (λ x. x) zs → is_sorted nat_cmp (bare (dedup eqb zs)) ≡ true
sorted-all [] h = refl
sorted-all (z ∷ zs) h = sorted-dedup z zs (climbs_from z zs h)

among-all : (q : ℕ) (zs : List ℕ) → is_among q (dedup eqb zs) ≡ is_among q zs
among-all q [] = refl
among-all q (z ∷ zs) = among-dedup q z zs

-- numbers that were sorted, and then each kept once
pub sorted_once : {V : Type 0} (t : V → Bool) (es : List (ℕ × V)) (ks zs ns : List ℕ) → is_sorted nat_cmp es ≡ true → IsPermutation ks zs → IsSorted nat_cmp zs
    → IsFiltered (DiffersFromLast eqb) [] zs ns
    → ((q : ℕ) → is_among q ks ≡ passes t (find nat_cmp q es)) → ns ≡ keys_where t es
sorted_once t es ks zs ns sorted moved rise once_each same =
    let is : ns ≡ dedup eqb zs = dedup_is eqb zs ns once_each in
    passing t ns es sorted (subst (λ (l : List ℕ). is_sorted nat_cmp (bare l) ≡ true) (sym is) (sorted-all zs (IsNonDecreasingBy-from_sort (λ x. x) zs rise)))
    (λ q. ap (is_among q) is ∙ among-all q zs ∙ sym (list_any-IsPermutation (λ n. eq_by_cmp nat_cmp q n) ks zs moved) ∙ same q)
