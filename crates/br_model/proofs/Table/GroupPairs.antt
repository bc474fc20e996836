-- The pairs of VLAN and group that have members, as the keys of a map: what a member that joins or parts does to them.
use Rattle.std.proofs.Common.{◌≡◌, ℕ, ◌+◌, ◌≤◌, length, Bool, true, false, not, ◌||◌, cond, T, Option, None, Some, List, [], ◌∷◌, map, refl, sym, ap, ap₂, ◌∙◌, arith}
use Rattle.std.specs.Prelude.{is_some, nat_lt}
use Rattle.std.specs.List.{filter, list_any}
use Rattle.std.specs.declared.cmp.Ordering.{Ordering}
use Rattle.std.specs.declared.cmp.Ordering.TheVariants.{Less, Equal, Greater}
use Rattle.std.specs.Ordering.{nat_cmp, eq_by_cmp, is_eq, match_ordering}
use Rattle.std.specs.Cmp.{unsigned_tied}
use Rattle.std.specs.FinMap.Entries.{is_some-find, is_sorted, find-put, find-where_key, is_sorted-put, is_sorted-where_key, length-put, length_without, same_entries}
use Rattle.std.proofs.lemmas.Bool.{eqb-true, ltb-true, or_right}
use Rattle.std.proofs.lemmas.Cmp.{eq_by_cmp_equiv}
use Rattle.std.proofs.lemmas.List.{length-map}
use Rattle.std.proofs.lemmas.Map.Views.{any-filter_same}
use Rattle.lemmas.proofs.Tests.{or_twice, or_swap}
use Rattle.lemmas.proofs.Orders.{then-equal, is_eq-true}
use Rattle.br_model.specs.Table.GroupPairs.{GroupPair, group_pair_cmp, group_pairs, has_room, max_pairs}
use Rattle.br_model.specs.Table.Groups.{Membership, membership_cmp}
use Rattle.br_model.specs.Data.Maps.{get, put, without, has, joined, parted}
use Rattle.br_model.proofs.Table.GroupOrders.{by_pair, equal_pairs, pair_total}
use Rattle.br_model.proofs.Data.KeySets.{keys-put}

-- whether the pair has a member
abbrev pub has_pair : List Membership → GroupPair → Bool
has_pair members k = list_any (λ m. eq_by_cmp group_pair_cmp k (m.0, m.1)) members

-- ---- the pairs as the keys of a map

pub pairs : List Membership → List (GroupPair × Unit {0})
pairs [] = []
pairs (m ∷ ms) = put group_pair_cmp (pairs ms) (m.0, m.1) tt

pub keys-pairs : (ms : List Membership) → map (λ e. e.0) (pairs ms) ≡ group_pairs ms
unfolding pairs
keys-pairs [] = refl
keys-pairs (m ∷ ms) = keys-put group_pair_cmp (pairs ms) (m.0, m.1) tt ∙ ap (λ ks. joined group_pair_cmp ks (m.0, m.1)) (keys-pairs ms)

pub sorted-pairs : (ms : List Membership) → T (is_sorted group_pair_cmp (pairs ms))
unfolding pairs
sorted-pairs [] = tt
sorted-pairs (m ∷ ms) = is_sorted-put group_pair_cmp pair_total (m.0, m.1) tt (pairs ms) (sorted-pairs ms)

some_put : (b : Bool) (o : Option (Unit {0})) → is_some (cond b (Some tt) o) ≡ (b || is_some o)
some_put true o = refl
some_put false o = refl

pub find-pairs : (ms : List Membership) (k : GroupPair) → is_some (get group_pair_cmp (pairs ms) k) ≡ has_pair ms k
unfolding pairs
find-pairs [] k = refl
find-pairs (m ∷ ms) k =
    ap is_some (find-put group_pair_cmp pair_total k (m.0, m.1) tt (pairs ms)) ∙ some_put (eq_by_cmp group_pair_cmp k (m.0, m.1)) (get group_pair_cmp (pairs ms) k)
    ∙ ap (λ b. eq_by_cmp group_pair_cmp k (m.0, m.1) || b) (find-pairs ms k)

pub same_units : (o r : Option (Unit {0})) → is_some o ≡ is_some r → o ≡ r
same_units None None h = refl
same_units None (Some y) h = (let e : false ≡ true = h in cc)
same_units (Some x) None h = (let e : true ≡ false = h in cc)
same_units (Some x) (Some y) h = refl

-- ---- members that join and part

number_equal : (m n : ℕ) → nat_cmp m n ≡ Equal → m ≡ n
number_equal m n e = eqb-true m n (sym (unsigned_tied m n) ∙ ap is_eq e)

pub equal_members : (x y : Membership) → membership_cmp x y ≡ Equal → x ≡ y
equal_members x y e =
    let parts = then-equal (group_pair_cmp (x.0, x.1) (y.0, y.1)) (nat_cmp x.2 y.2) (sym (by_pair (x.0, x.1) (y.0, y.1) x.2 y.2) ∙ e) in
    ap₂ (λ (k : GroupPair) q. (k.0, k.1, q)) (equal_pairs (x.0, x.1) (y.0, y.1) parts.0) (number_equal x.2 y.2 parts.1)

pub any-joined : (test : Membership → Bool) (ms : List Membership) (m : Membership) → list_any test (joined membership_cmp ms m) ≡ (test m || list_any test ms)
any-joined test [] m = refl
any-joined test (x ∷ xs) m = step (any-joined test xs m) (membership_cmp m x) refl
  where
    step : list_any test (joined membership_cmp xs m) ≡ (test m || list_any test xs) → (r : Ordering) → membership_cmp m x ≡ r
        → list_any test (match_ordering r (m ∷ x ∷ xs) (x ∷ xs) (x ∷ joined membership_cmp xs m)) ≡ (test m || (test x || list_any test xs))
    step rest Less is = refl
    step rest Equal is = or_twice (test x) (list_any test xs) ∙ ap (λ n. test n || (test x || list_any test xs)) (sym (equal_members m x is))
    step rest Greater is = ap (λ b. test x || b) rest ∙ or_swap (test x) (test m) (list_any test xs)

pub pair-joined : (ms : List Membership) (m : Membership) (k : GroupPair) → has_pair (joined membership_cmp ms m) k ≡ (eq_by_cmp group_pair_cmp k (m.0, m.1) || has_pair ms k)
pair-joined ms m k = any-joined (λ n. eq_by_cmp group_pair_cmp k (n.0, n.1)) ms m

-- other pairs keep their members
pub pair-parted : (ms : List Membership) (m : Membership) (k : GroupPair) → eq_by_cmp group_pair_cmp k (m.0, m.1) ≡ false → has_pair (parted membership_cmp ms m) k ≡ has_pair ms k
pair-parted ms m k other =
    any-filter_same (λ n. eq_by_cmp group_pair_cmp k (n.0, n.1)) (λ n. not (eq_by_cmp membership_cmp m n)) true (λ n tie. ap not (apart n tie (membership_cmp m n) refl)) ms
  where
    apart : (n : Membership) → eq_by_cmp group_pair_cmp k (n.0, n.1) ≡ true → (r : Ordering) → membership_cmp m n ≡ r → is_eq r ≡ false
    apart n tie Less is = refl
    apart n tie Greater is = refl
    apart n tie Equal is =
        absurd (let no : false ≡ true = sym other ∙ ap (λ (x : Membership). eq_by_cmp group_pair_cmp k (x.0, x.1)) (equal_members m n is) ∙ tie in cc)

-- ---- how many pairs there are

pub pair_equal : (j k : GroupPair) → eq_by_cmp group_pair_cmp j k ≡ true → j ≡ k
pair_equal j k e = equal_pairs j k (is_eq-true (group_pair_cmp j k) e)

count : (ms : List Membership) → length (group_pairs ms) ≡ length (pairs ms)
count ms = sym (ap length (keys-pairs ms)) ∙ length-map (pairs ms) (λ e. e.0)

-- the same pairs, as a map
same_pairs : (ms : List Membership) (es : List (GroupPair × Unit {0})) → T (is_sorted group_pair_cmp es) → ((k : GroupPair) → has_pair ms k ≡ is_some (get group_pair_cmp es k)) → pairs ms ≡ es
same_pairs ms es sorted same =
    same_entries group_pair_cmp pair_total equal_pairs (pairs ms) es (sorted-pairs ms) sorted (λ k. same_units _ _ (find-pairs ms k ∙ same k))

or_more : (found a b : Bool) → (a ≡ true → b ≡ true) → (found || a) ≡ true → (found || b) ≡ true
or_more true a b rest e = refl
or_more false a b rest e = rest e

any-filter : (p q : Membership → Bool) (ms : List Membership) → list_any p (filter q ms) ≡ true → list_any p ms ≡ true
any-filter p q [] h = h
any-filter p q (m ∷ ms) h =
    (elim (q m) as (λ b. list_any p (cond b (m ∷ filter q ms) (filter q ms)) ≡ true → (p m || list_any p ms) ≡ true) [
      | true ↦ λ e. or_more (p m) (list_any p (filter q ms)) (list_any p ms) (any-filter p q ms) e
      | false ↦ λ e. or_right (p m) (list_any p ms) (any-filter p q ms e)
    ]) h

module _ (ms : List Membership) (m : Membership) where
  abbrev k : GroupPair
  k = (m.0, m.1)

  joined-put : pairs (joined membership_cmp ms m) ≡ put group_pair_cmp (pairs ms) k tt
  joined-put =
      same_pairs (joined membership_cmp ms m) (put group_pair_cmp (pairs ms) k tt) (is_sorted-put group_pair_cmp pair_total k tt (pairs ms) (sorted-pairs ms))
      (λ j. pair-joined ms m j
      ∙ sym (ap is_some (find-put group_pair_cmp pair_total j k tt (pairs ms)) ∙ some_put (eq_by_cmp group_pair_cmp j k) (get group_pair_cmp (pairs ms) j)
      ∙ ap (λ b. eq_by_cmp group_pair_cmp j k || b) (find-pairs ms j)))

  -- Where there is room for the pair, there are no more pairs than there may be once the member has joined.
  pub few-joined : length (group_pairs ms) ≤ max_pairs → has_room ms m.0 m.1 ≡ true → length (group_pairs (joined membership_cmp ms m)) ≤ max_pairs
  few-joined few room =
      let more : length (group_pairs (joined membership_cmp ms m)) ≡ cond (is_some (get group_pair_cmp (pairs ms) k)) (length (pairs ms)) (length (pairs ms) + 1) =
      count (joined membership_cmp ms m) ∙ ap length joined-put ∙ length-put group_pair_cmp pair_total k tt (pairs ms) (sorted-pairs ms) in
      let found : has group_pair_cmp (group_pairs ms) k ≡ is_some (get group_pair_cmp (pairs ms) k) =
      sym (is_some-find group_pair_cmp k (pairs ms) ∙ ap (λ ks. has group_pair_cmp ks k) (keys-pairs ms)) in
      (elim (is_some (get group_pair_cmp (pairs ms) k)) as (λ b. length (group_pairs (joined membership_cmp ms m)) ≡ cond b (length (pairs ms)) (length (pairs ms) + 1)
      → (b || nat_lt (length (group_pairs ms)) max_pairs) ≡ true → length (group_pairs (joined membership_cmp ms m)) ≤ max_pairs) [
        | true ↦ λ e f. omega (arith, e, few, count ms)
        | false ↦ λ e f. omega (arith, e, ltb-true _ _ f, count ms)
      ]) more (ap (λ b. b || nat_lt (length (group_pairs ms)) max_pairs) (sym found) ∙ room)

  -- where another member has the pair, all pairs stay
  parted-stays : has_pair (parted membership_cmp ms m) k ≡ true → pairs (parted membership_cmp ms m) ≡ pairs ms
  parted-stays left = same_pairs (parted membership_cmp ms m) (pairs ms) (sorted-pairs ms) (λ j. by j (eq_by_cmp group_pair_cmp j k) refl)
    where
      by : (j : GroupPair) (b : Bool) → eq_by_cmp group_pair_cmp j k ≡ b → has_pair (parted membership_cmp ms m) j ≡ is_some (get group_pair_cmp (pairs ms) j)
      by j false other = pair-parted ms m j other ∙ sym (find-pairs ms j)
      by j true same =
          ap (has_pair (parted membership_cmp ms m)) (pair_equal j k same) ∙ left
          ∙ sym (find-pairs ms j ∙ ap (has_pair ms) (pair_equal j k same) ∙ any-filter (λ n. eq_by_cmp group_pair_cmp k (n.0, n.1)) (λ n. not (eq_by_cmp membership_cmp m n)) ms left)

  -- where none has, it is gone
  parted-goes : has_pair (parted membership_cmp ms m) k ≡ false → pairs (parted membership_cmp ms m) ≡ without group_pair_cmp (pairs ms) k
  parted-goes none =
      same_pairs (parted membership_cmp ms m) (without group_pair_cmp (pairs ms) k) (is_sorted-where_key group_pair_cmp (λ j. not (eq_by_cmp group_pair_cmp k j)) (pairs ms) (sorted-pairs ms))
      (λ j. by j (eq_by_cmp group_pair_cmp j k) refl ∙ sym (ap is_some (found j)))
    where
      found : (j : GroupPair) → get group_pair_cmp (without group_pair_cmp (pairs ms) k) j ≡ cond (not (eq_by_cmp group_pair_cmp j k)) (get group_pair_cmp (pairs ms) j) None
      found j =
          find-where_key group_pair_cmp (λ n. not (eq_by_cmp group_pair_cmp k n)) j (λ x tie. ap (λ n. not (eq_by_cmp group_pair_cmp k n)) (sym (equal_pairs j x tie))) (pairs ms)
          ∙ ap (λ b. cond (not b) (get group_pair_cmp (pairs ms) j) None) ((eq_by_cmp_equiv pair_total).symm k j)

      by : (j : GroupPair) (b : Bool) → eq_by_cmp group_pair_cmp j k ≡ b
          → has_pair (parted membership_cmp ms m) j ≡ is_some (cond (not (eq_by_cmp group_pair_cmp j k)) (get group_pair_cmp (pairs ms) j) None)
      by j false other = pair-parted ms m j other ∙ sym (find-pairs ms j) ∙ ap (λ b. is_some (cond (not b) (get group_pair_cmp (pairs ms) j) None)) (sym other)
      by j true same = ap (has_pair (parted membership_cmp ms m)) (pair_equal j k same) ∙ none ∙ ap (λ b. is_some (cond (not b) (get group_pair_cmp (pairs ms) j) None)) (sym same)

  -- No pair comes where a member parts.
  pub few-parted : length (group_pairs (parted membership_cmp ms m)) ≤ length (group_pairs ms)
  few-parted = by (has_pair (parted membership_cmp ms m) k) refl
    where
      by : (b : Bool) → has_pair (parted membership_cmp ms m) k ≡ b → length (group_pairs (parted membership_cmp ms m)) ≤ length (group_pairs ms)
      by true left = omega (arith, count (parted membership_cmp ms m), ap length (parted-stays left), count ms)
      by false none = omega (arith, count (parted membership_cmp ms m), ap length (parted-goes none), count ms, length_without group_pair_cmp pair_total k (pairs ms) (sorted-pairs ms))
