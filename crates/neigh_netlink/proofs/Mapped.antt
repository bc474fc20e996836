-- Entries by VLAN and address: keys that tie are one, and entries whose values are mapped with their keys.
use Rattle.std.proofs.Common.{◌≡◌, Bool, true, false, cond, ◌&&◌, Some, None, Option, List, [], ◌∷◌, map, refl, sym, ap, ◌∙◌}
use Rattle.std.specs.Option.{option_map}
use Rattle.std.specs.Ordering.{is_eq, is_lt, eq_by_cmp}
use Rattle.std.specs.declared.cmp.Ordering.TheVariants.{Equal}
use Rattle.std.specs.Cmp.{tied_itself}
use Rattle.std.specs.FinMap.Entries.{below_all}
use Rattle.lemmas.proofs.Orders.{is_eq-true, is_eq-reverse}
use Rattle.br_model.specs.Data.Maps.{pair_cmp, get, is_ascending}
use Rattle.br_model.proofs.Data.PairKeys.{pair_total, same_cmp}
use Rattle.neigh_netlink.specs.Neighbours.{Key}

pub same-key : (q k : Key) → eq_by_cmp pair_cmp q k ≡ true → q ≡ k
same-key q k h = same_cmp q k (is_eq-true (pair_cmp q k) h)

pub key-itself : (q : Key) → eq_by_cmp pair_cmp q q ≡ true
key-itself q = let e : pair_cmp q q ≡ Equal = tied_itself pair_total q in ap is_eq e

pub eq-turned : (q k : Key) → eq_by_cmp pair_cmp k q ≡ eq_by_cmp pair_cmp q k
eq-turned q k = ap is_eq (pair_total.antisymm k q) ∙ is_eq-reverse (pair_cmp q k)

pub map-same : {X Y : Type 0} (f g : X → Y) (o : Option X) → ((x : X) → f x ≡ g x) → option_map f o ≡ option_map g o
map-same f g None e = refl
map-same f g (Some x) e = ap (λ y. Some y) (e x)

module _ {X Y : Type 0} (f : Key → X → Y) where
  abbrev pub mapped : List (Key × X) → List (Key × Y)
  mapped m = map (λ e. (e.0, f e.0 e.1)) m

  pub get-mapped : (m : List (Key × X)) (q : Key) → get pair_cmp (mapped m) q ≡ option_map (f q) (get pair_cmp m q)
  get-mapped [] q = refl
  get-mapped (e ∷ m) q = by (get-mapped m q) (eq_by_cmp pair_cmp q e.0) refl
    where
      by : get pair_cmp (mapped m) q ≡ option_map (f q) (get pair_cmp m q) → (b : Bool) → eq_by_cmp pair_cmp q e.0 ≡ b
          → cond b (Some (f e.0 e.1)) (get pair_cmp (mapped m) q) ≡ option_map (f q) (cond b (Some e.1) (get pair_cmp m q))
      by rest true same = ap (λ k. Some (f k e.1)) (sym (same-key q e.0 same))
      by rest false other = rest

  below-mapped : (k : Key) (m : List (Key × X)) → below_all pair_cmp k (mapped m) ≡ below_all pair_cmp k m
  below-mapped k [] = refl
  below-mapped k (e ∷ m) = ap (λ b. is_lt (pair_cmp k e.0) && b) (below-mapped k m)

  pub ascending-mapped : (m : List (Key × X)) → is_ascending pair_cmp (mapped m) ≡ is_ascending pair_cmp m
  ascending-mapped [] = refl
  ascending-mapped (e ∷ m) = λ i. below-mapped e.0 m i && ascending-mapped m i
