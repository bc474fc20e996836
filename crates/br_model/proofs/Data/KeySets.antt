-- The keys of a finite map are a finite set: what is done to the map is done to its keys.
use Rattle.std.proofs.Common.{◌≡◌, Bool, true, false, not, cond, List, [], ◌∷◌, Some, refl, sym, ap, ◌∙◌}
use Rattle.std.specs.Prelude.{is_some}
use Rattle.std.specs.List.{AllByRecursion}
use Rattle.std.specs.List.Sorted.{IsStrictlySortedBy}
use Rattle.std.specs.declared.cmp.Ordering.{Ordering}
use Rattle.std.specs.declared.cmp.Ordering.TheVariants.{Less, Equal, Greater}
use Rattle.std.specs.Ordering.{is_eq, eq_by_cmp, match_ordering}
use Rattle.std.specs.Cmp.{IsTotalOrder, first_so, second_so}
use Rattle.std.specs.Bool.{passes}
use Rattle.std.specs.FinMap.Entries.{by_order, below_all, is_sorted-put, is_sorted-where_key}
use Rattle.lemmas.proofs.Orders.{is_lt-true}
use Rattle.lemmas.proofs.Tests.{true_from_T}
use Rattle.br_model.specs.Control.Ends.{keys}
use Rattle.br_model.specs.Data.Maps.{get, put, without, joined, parted, is_ascending}

module _ {K X : Type 0} where
  module _ (R : K → K → Ordering) where
    pub keys-put : (m : List (K × X)) (k : K) (x : X) → keys (put R m k x) ≡ joined R (keys m) k
    keys-put [] k x = refl
    keys-put (e ∷ m) k x =
        by (R k e.0) ∙ ap (λ rest. match_ordering (R k e.0) (k ∷ e.0 ∷ keys m) (e.0 ∷ keys m) (e.0 ∷ rest)) (keys-put m k x)
      where
        by : (r : Ordering) → keys (by_order r ((k, x) ∷ e ∷ m) ((e.0, x) ∷ m) (e ∷ put R m k x)) ≡ match_ordering r (k ∷ e.0 ∷ keys m) (e.0 ∷ keys m) (e.0 ∷ keys (put R m k x))
        by Less = refl
        by Equal = refl
        by Greater = refl

    pub keys-without : (m : List (K × X)) (k : K) → keys (without R m k) ≡ parted R (keys m) k
    keys-without [] k = refl
    keys-without (e ∷ m) k = by (eq_by_cmp R k e.0) ∙ ap (λ rest. cond (not (eq_by_cmp R k e.0)) (e.0 ∷ rest) rest) (keys-without m k)
      where
        by : (b : Bool) → keys (cond (not b) (e ∷ without R m k) (without R m k)) ≡ cond (not b) (e.0 ∷ keys (without R m k)) (keys (without R m k))
        by true = refl
        by false = refl

    below_keys : (k : K) (m : List (K × X)) → below_all R k m ≡ true → AllByRecursion (λ y. R k y ≡ Less) (keys m)
    below_keys k [] h = tt
    below_keys k (e ∷ m) h = (is_lt-true _ (first_so _ _ h), below_keys k m (second_so _ _ h))

    pub keys-ascend : (m : List (K × X)) → is_ascending R m ≡ true → IsStrictlySortedBy R (keys m)
    unfolding IsStrictlySortedBy
    keys-ascend [] h = tt
    keys-ascend (e ∷ m) h = (below_keys e.0 m (first_so _ _ h), keys-ascend m (second_so _ _ h))

    pub ascending-without : (m : List (K × X)) (k : K) → is_ascending R m ≡ true → is_ascending R (without R m k) ≡ true
    ascending-without m k h = true_from_T _ (is_sorted-where_key R (λ q. not (eq_by_cmp R k q)) m (passes _ h))

    module _ (o : IsTotalOrder R) where
      pub ascending-put : (m : List (K × X)) (k : K) (x : X) → is_ascending R m ≡ true → is_ascending R (put R m k x) ≡ true
      ascending-put m k x h = true_from_T _ (is_sorted-put R o k x m (passes _ h))

      -- below the first key there is none
      none_below : (k first : K) (m : List (K × X)) → R k first ≡ Less → below_all R first m ≡ true → is_some (get R m k) ≡ true → false ≡ true
      none_below k first [] less h there = there
      none_below k first (e ∷ m) less h there =
          none_below k first m less (second_so _ _ h) (ap (λ r. is_some (cond (is_eq r) (Some e.1) (get R m k))) (sym (o.trans k first e.0 less (is_lt-true _ (first_so _ _ h)))) ∙ there)

      -- where something stands at the key, the keys stay
      pub keys-put_there : (m : List (K × X)) (k : K) (x : X) → is_ascending R m ≡ true → is_some (get R m k) ≡ true → keys (put R m k x) ≡ keys m
      keys-put_there [] k x h there = absurd (cc (there))
      keys-put_there (e ∷ m) k x h there = by (λ found. keys-put_there m k x (second_so _ _ h) found) (R k e.0) refl
        where
          at : (r : Ordering) → R k e.0 ≡ r → is_some (cond (is_eq r) (Some e.1) (get R m k)) ≡ true
          at r is = ap (λ q. is_some (cond (is_eq q) (Some e.1) (get R m k))) (sym is) ∙ there

          by : (is_some (get R m k) ≡ true → keys (put R m k x) ≡ keys m) → (r : Ordering) → R k e.0 ≡ r → keys (by_order r ((k, x) ∷ e ∷ m) ((e.0, x) ∷ m) (e ∷ put R m k x)) ≡ e.0 ∷ keys m
          by rest Less is = absurd (cc (none_below k e.0 m is (first_so _ _ h) (at Less is)))
          by rest Equal is = refl
          by rest Greater is = ap (λ l. e.0 ∷ l) (rest (at Greater is))
