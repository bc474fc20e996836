-- Entries in ascending order find their own values.
use Rattle.std.proofs.Common.{◌≡◌, true, cond, ◌&&◌, Some, List, [], ◌∷◌, map, refl, ap, ◌∙◌}
use Rattle.std.specs.List.{AllByRecursion}
use Rattle.std.specs.List.Sorted.{IsStrictlySortedBy}
use Rattle.std.specs.Cmp.{first_so, second_so}
use Rattle.std.specs.FinMap.Entries.{below_all, is_sorted}
use Rattle.std.specs.Ordering.{is_eq, is_lt, ordering_reverse}
use Rattle.std.specs.declared.cmp.Ordering.TheVariants.{Less, Greater}
use Rattle.std.proofs.lemmas.Cmp.{tied_itself}
use Rattle.lemmas.proofs.Orders.{is_lt-true}
use Rattle.br_model.specs.Data.Maps.{pair_cmp, get}
use Rattle.br_model.proofs.Data.PairKeys.{pair_total}
use Rattle.neigh_netlink.specs.Neighbours.{Key}

-- a key that is below another one, and that one above it

pub above : (k q : Key) → is_lt (pair_cmp k q) ≡ true → pair_cmp q k ≡ Greater
above k q h = pair_total.antisymm q k ∙ ap ordering_reverse (is_lt-true (pair_cmp k q) h)

module _ {X : Type 0} where
  abbrev pub FindOwn : List (Key × X) → List (Key × X) → Type 0
  FindOwn es fs = AllByRecursion (λ f. get pair_cmp es f.0 ≡ Some f.1) fs

  behind : (e : Key × X) (es fs : List (Key × X)) → below_all pair_cmp e.0 fs ≡ true → FindOwn es fs → FindOwn (e ∷ es) fs
  behind e es [] below own = tt
  behind e es (f ∷ fs) below own = (
    ap (λ r. cond (is_eq r) (Some e.1) (get pair_cmp es f.0)) (above e.0 f.0 (first_so _ _ below)) ∙ own.0,
    behind e es fs (second_so _ _ below) own.1,
  )

  pub find-own : (es : List (Key × X)) → is_sorted pair_cmp es ≡ true → FindOwn es es
  find-own [] rise = tt
  find-own (e ∷ es) rise = (
    ap (λ r. cond (is_eq r) (Some e.1) (get pair_cmp es e.0)) (tied_itself pair_total e.0),
    behind e es es (first_so _ _ rise) (find-own es (second_so _ _ rise)),
  )

  -- entries whose keys ascend

  below : (k : Key) (es : List (Key × X)) → AllByRecursion (λ q. pair_cmp k q ≡ Less) (map (λ e. e.0) es) → below_all pair_cmp k es ≡ true
  below k [] low = refl
  below k (e ∷ es) low = ap (λ r. is_lt r && below_all pair_cmp k es) low.0 ∙ below k es low.1

  pub rises : (es : List (Key × X)) → IsStrictlySortedBy pair_cmp (map (λ e. e.0) es) → is_sorted pair_cmp es ≡ true
  unfolding IsStrictlySortedBy
  rises [] rise = refl
  rises (e ∷ es) rise = ap (λ b. b && is_sorted pair_cmp es) (below e.0 es rise.0) ∙ rises es rise.1
