-- The rows of groups, told by look-ups: one at each VLAN and group that has members.
use Rattle.std.proofs.Common.{◌≡◌, ℕ, zero, suc, ◌+◌, length, take, Bool, true, false, not, ◌&&◌, ◌||◌, cond, T, IsTrue}
use Rattle.std.proofs.Common.{◌↔◌, Option, None, Some, List, [], ◌∷◌, map, refl, sym, ap, ap₂, subst, ◌∙◌, add-one}
use Rattle.std.specs.Prelude.{◌==◌, is_some, slice_get}
use Rattle.std.specs.List.{list_any, filter}
use Rattle.std.specs.declared.cmp.Ordering.{Ordering}
use Rattle.std.specs.declared.cmp.Ordering.TheVariants.{Less, Equal, Greater}
use Rattle.std.specs.Ordering.{nat_cmp, eq_by_cmp, is_eq, is_lt, ordering_then}
use Rattle.std.specs.Cmp.{unsigned_tied}
use Rattle.std.specs.FinMap.Entries.{by_order, below_all, is_sorted, find-put, find-where_key, is_sorted-put, is_sorted-where_key, same_entries}
use Rattle.std.proofs.lemmas.Cmp.{eq_by_cmp_equiv}
use Rattle.std.proofs.lemmas.List.{length-map}
use Rattle.chip_driver.specs.GroupRows.{has_pair}
use Rattle.std.proofs.lemmas.Map.Views.{any-filter_same}
use Rattle.std.proofs.lemmas.Float.{T_from_true}
use Rattle.lemmas.proofs.Orders.{is_eq-then}
use Rattle.lemmas.proofs.Tests.{true_from_T, or-true, or-false}
use Rattle.br_model.specs.declared.group.Group.{Group}
use Rattle.br_model.specs.Table.GroupPairs.{GroupPair, group_pair_cmp, group_pairs}
use Rattle.br_model.specs.Table.Groups.{Membership, group_cmp, membership_cmp}
use Rattle.br_model.specs.Data.Maps.{get, put, without, joined, parted, has, is_ascending}
use Rattle.mdb_snoop.specs.Database.{ports_in}
use Rattle.br_model.proofs.Table.GroupOrders.{pair_total, equal_pairs, by_pair, is_of_pair}
use Rattle.br_model.proofs.Table.GroupPairs.{any-joined, equal_members, find-pairs, keys-pairs, pairs, same_units, sorted-pairs}
use Rattle.port_sets.specs.Numbers.{has_number}

-- ---- rows at the pairs that have members

module _ {X : Type 0} (F : GroupPair → X) where
  abbrev pub keyed : List (GroupPair × Unit {0}) → List (GroupPair × X)
  keyed es = map (λ e. (e.0, F e.0)) es

  find-keyed : (es : List (GroupPair × Unit {0})) (k : GroupPair) → get group_pair_cmp (keyed es) k ≡ cond (is_some (get group_pair_cmp es k)) (Some (F k)) None
  find-keyed [] k = refl
  find-keyed (e ∷ es) k = step (group_pair_cmp k e.0) refl (find-keyed es k)
    where
      step : (r : Ordering) → group_pair_cmp k e.0 ≡ r → get group_pair_cmp (keyed es) k ≡ cond (is_some (get group_pair_cmp es k)) (Some (F k)) None
          → cond (is_eq r) (Some (F e.0)) (get group_pair_cmp (keyed es) k) ≡ cond (is_some (cond (is_eq r) (Some e.1) (get group_pair_cmp es k))) (Some (F k)) None
      step Less is h = h
      step Equal is h = ap (λ j. Some (F j)) (sym (equal_pairs k e.0 is))
      step Greater is h = h

  below-keyed : (x : GroupPair) (es : List (GroupPair × Unit {0})) → below_all group_pair_cmp x (keyed es) ≡ below_all group_pair_cmp x es
  below-keyed x [] = refl
  below-keyed x (e ∷ es) = ap (λ b. is_lt (group_pair_cmp x e.0) && b) (below-keyed x es)

  sorted-keyed : (es : List (GroupPair × Unit {0})) → is_sorted group_pair_cmp (keyed es) ≡ is_sorted group_pair_cmp es
  sorted-keyed [] = refl
  sorted-keyed (e ∷ es) = ap₂ (λ a b. a && b) (below-keyed e.0 es) (sorted-keyed es)

  keyed-keys : (es : List (GroupPair × Unit {0})) → keyed es ≡ map (λ k. (k, F k)) (map (λ e. e.0) es)
  keyed-keys [] = refl
  keyed-keys (e ∷ es) = ap (λ rest. (e.0, F e.0) ∷ rest) (keyed-keys es)

  -- Rows in order, one at each pair that has a member, are the list of these.
  pub rows_are : (rows : List (GroupPair × X)) (ms : List Membership) → T (is_sorted group_pair_cmp rows)
      → ((k : GroupPair) → get group_pair_cmp rows k ≡ cond (has_pair ms k) (Some (F k)) None) → rows ≡ map (λ k. (k, F k)) (group_pairs ms)
  rows_are rows ms sorted at =
      same_entries group_pair_cmp pair_total equal_pairs rows (keyed (pairs ms)) sorted (subst T (sym (sorted-keyed (pairs ms))) (sorted-pairs ms))
      (λ k. at k ∙ ap (λ b. cond b (Some (F k)) None) (sym (find-pairs ms k)) ∙ sym (find-keyed (pairs ms) k))
      ∙ keyed-keys (pairs ms) ∙ ap (map (λ k. (k, F k))) (keys-pairs ms)

  pub find-wanted : (ms : List Membership) (k : GroupPair) → get group_pair_cmp (map (λ j. (j, F j)) (group_pairs ms)) k ≡ cond (has_pair ms k) (Some (F k)) None
  find-wanted ms k =
      ap (λ rows. get group_pair_cmp rows k) (sym (keyed-keys (pairs ms) ∙ ap (map (λ j. (j, F j))) (keys-pairs ms)))
      ∙ find-keyed (pairs ms) k ∙ ap (λ b. cond b (Some (F k)) None) (find-pairs ms k)

-- ---- the ports of a pair

pub has-ports : (q v : ℕ) (g : Group) (ms : List Membership) → has_number (ports_in ms v g) q ≡ has membership_cmp ms (v, g, q)
has-ports q v g [] = refl
has-ports q v g (m ∷ ms) =
    by (m.0 == v && is_eq (group_cmp m.1 g))
    ∙ ap₂ (λ a b. (a && b) || has_number (ports_in ms v g) q) (is_of_pair (v, g) (m.0, m.1)) (sym (unsigned_tied q m.2))
    ∙ ap (λ b. b || has_number (ports_in ms v g) q) (sym (is_eq-then (group_pair_cmp (v, g) (m.0, m.1)) (nat_cmp q m.2)) ∙ ap is_eq (sym (by_pair (v, g) (m.0, m.1) q m.2)))
    ∙ ap (λ b. eq_by_cmp membership_cmp (v, g, q) m || b) (has-ports q v g ms)
  where
    by : (b : Bool)
        → has_number
        (map (λ n. n.2) (cond b (m ∷ filter (λ n. n.0 == v && is_eq (group_cmp n.1 g)) ms) (filter (λ n. n.0 == v && is_eq (group_cmp n.1 g)) ms))) q ≡ ((b && (q == m.2)) || has_number
        (ports_in ms v g) q)
    by true = refl
    by false = refl

-- ---- truth of a test, as a fact and as an equation

-- ---- one row at each pair: as many rows as pairs

module _ {X : Type 0} where
  abbrev bare : List (GroupPair × X) → List (GroupPair × Unit {0})
  bare es = map (λ e. (e.0, tt)) es

  find-bare : (es : List (GroupPair × X)) (k : GroupPair) → is_some (get group_pair_cmp (bare es) k) ≡ is_some (get group_pair_cmp es k)
  find-bare [] k = refl
  find-bare (e ∷ es) k = step (eq_by_cmp group_pair_cmp k e.0) (find-bare es k)
    where
      step : (b : Bool) → is_some (get group_pair_cmp (bare es) k) ≡ is_some (get group_pair_cmp es k)
          → is_some (cond b (Some tt) (get group_pair_cmp (bare es) k)) ≡ is_some (cond b (Some e.1) (get group_pair_cmp es k))
      step true h = refl
      step false h = h

  below-bare : (x : GroupPair) (es : List (GroupPair × X)) → below_all group_pair_cmp x (bare es) ≡ below_all group_pair_cmp x es
  below-bare x [] = refl
  below-bare x (e ∷ es) = ap (λ b. is_lt (group_pair_cmp x e.0) && b) (below-bare x es)

  sorted-bare : (es : List (GroupPair × X)) → is_sorted group_pair_cmp (bare es) ≡ is_sorted group_pair_cmp es
  sorted-bare [] = refl
  sorted-bare (e ∷ es) = ap₂ (λ a b. a && b) (below-bare e.0 es) (sorted-bare es)

  pub count_is : (rows : List (GroupPair × X)) (ms : List Membership) → is_ascending group_pair_cmp rows ≡ true → ((k : GroupPair) → is_some (get group_pair_cmp rows k) ≡ has_pair ms k)
      → length rows ≡ length (group_pairs ms)
  count_is rows ms sorted used =
      sym (length-map rows (λ (e : GroupPair × X). (e.0, tt)))
      ∙ ap length
      (same_entries group_pair_cmp pair_total equal_pairs (bare rows) (pairs ms) (subst T (sym (sorted-bare rows)) (T_from_true _ sorted)) (sorted-pairs ms)
      (λ k. same_units _ _ (find-bare rows k ∙ used k ∙ sym (find-pairs ms k))))
      ∙ sym (length-map (pairs ms) (λ e. e.0)) ∙ ap length (keys-pairs ms)

  pub find-written : (rows : List (GroupPair × X)) (k j : GroupPair) (x : X)
      → get group_pair_cmp (put group_pair_cmp rows k x) j ≡ cond (eq_by_cmp group_pair_cmp j k) (Some x) (get group_pair_cmp rows j)
  find-written rows k j x = find-put group_pair_cmp pair_total j k x rows

  pub ascending-written : (rows : List (GroupPair × X)) (k : GroupPair) (x : X) → is_ascending group_pair_cmp rows ≡ true → is_ascending group_pair_cmp (put group_pair_cmp rows k x) ≡ true
  ascending-written rows k x h = true_from_T _ (is_sorted-put group_pair_cmp pair_total k x rows (T_from_true _ h))

  pub find-freed : (rows : List (GroupPair × X)) (k j : GroupPair) → get group_pair_cmp (without group_pair_cmp rows k) j ≡ cond (eq_by_cmp group_pair_cmp j k) None (get group_pair_cmp rows j)
  find-freed rows k j =
      find-where_key group_pair_cmp (λ n. not (eq_by_cmp group_pair_cmp k n)) j (λ x tie. ap (λ n. not (eq_by_cmp group_pair_cmp k n)) (sym (equal_pairs j x tie))) rows
      ∙ turn (eq_by_cmp group_pair_cmp k j) ∙ ap (λ b. cond b None (get group_pair_cmp rows j)) ((eq_by_cmp_equiv pair_total).symm k j)
    where
      turn : (b : Bool) → cond (not b) (get group_pair_cmp rows j) None ≡ cond b None (get group_pair_cmp rows j)
      turn true = refl
      turn false = refl

  pub ascending-freed : (rows : List (GroupPair × X)) (k : GroupPair) → is_ascending group_pair_cmp rows ≡ true → is_ascending group_pair_cmp (without group_pair_cmp rows k) ≡ true
  ascending-freed rows k h = true_from_T _ (is_sorted-where_key group_pair_cmp (λ n. not (eq_by_cmp group_pair_cmp k n)) rows (T_from_true _ h))

pub rows_stand : {X : Type 0} (F : GroupPair → X) (rows : List (GroupPair × X)) (ms : List Membership) → is_ascending group_pair_cmp rows ≡ true
    → ((k : GroupPair) → get group_pair_cmp rows k ≡ cond (has_pair ms k) (Some (F k)) None) → rows ≡ map (λ k. (k, F k)) (group_pairs ms)
rows_stand F rows ms sorted at = rows_are F rows ms (T_from_true _ sorted) at

-- ---- the pairs in their order

abbrev pub among : List GroupPair → GroupPair → Bool
among ks k = list_any (eq_by_cmp group_pair_cmp k) ks

pub same_pair : (k : GroupPair) → eq_by_cmp group_pair_cmp k k ≡ true
same_pair k = (eq_by_cmp_equiv pair_total).refl k

some_cond : (b : Bool) (x : Unit {0}) (o : Option (Unit {0})) → (b || is_some o) ≡ is_some (cond b (Some x) o)
some_cond true x o = refl
some_cond false x o = refl

among-keys : (es : List (GroupPair × Unit {0})) (k : GroupPair) → among (map (λ e. e.0) es) k ≡ is_some (get group_pair_cmp es k)
among-keys [] k = refl
among-keys (e ∷ es) k = ap (λ b. eq_by_cmp group_pair_cmp k e.0 || b) (among-keys es k) ∙ some_cond (eq_by_cmp group_pair_cmp k e.0) e.1 (get group_pair_cmp es k)

pub among-pairs : (ms : List Membership) (k : GroupPair) → among (group_pairs ms) k ≡ has_pair ms k
among-pairs ms k = ap (λ ks. among ks k) (sym (keys-pairs ms)) ∙ among-keys (pairs ms) k ∙ find-pairs ms k

or_assoc : (a b c : Bool) → (a || (b || c)) ≡ ((a || b) || c)
or_assoc true b c = refl
or_assoc false b c = refl

among-suc : (ks : List GroupPair) (i : ℕ) (j k : GroupPair) → slice_get ks i ≡ Some j → among (take (suc i) ks) k ≡ (among (take i ks) k || eq_by_cmp group_pair_cmp k j)
among-suc [] i j k e = absurd (let no : None ≡ Some j = e in cc)
among-suc (x ∷ xs) zero j k e = (let is : Some x ≡ Some j = e in let same : x ≡ j = cc in ap (λ (n : GroupPair). eq_by_cmp group_pair_cmp k n || false) same ∙ or-false (eq_by_cmp group_pair_cmp k j))
among-suc (x ∷ xs) (suc i) j k e = ap (λ b. eq_by_cmp group_pair_cmp k x || b) (among-suc xs i j k e) ∙ or_assoc (eq_by_cmp group_pair_cmp k x) (among (take i xs) k) (eq_by_cmp group_pair_cmp k j)

pub among-next : (ks : List GroupPair) (i : ℕ) (j k : GroupPair) → slice_get ks i ≡ Some j → among (take (i + 1) ks) k ≡ (among (take i ks) k || eq_by_cmp group_pair_cmp k j)
among-next ks i j k e = ap (λ n. among (take n ks) k) (add-one i) ∙ among-suc ks i j k e

pub among-past : (ks : List GroupPair) (i : ℕ) (k : GroupPair) → slice_get ks i ≡ None → among (take (i + 1) ks) k ≡ among (take i ks) k
among-past ks i k e = ap (λ n. among (take n ks) k) (add-one i) ∙ past ks i e
  where
    past : (ks : List GroupPair) (i : ℕ) → slice_get ks i ≡ None → among (take (suc i) ks) k ≡ among (take i ks) k
    past [] zero e = refl
    past [] (suc i) e = refl
    past (x ∷ xs) zero e = absurd (let no : Some x ≡ None = e in cc)
    past (x ∷ xs) (suc i) e = ap (λ b. eq_by_cmp group_pair_cmp k x || b) (past xs i e)

pub among-one : (ks : List GroupPair) (i : ℕ) (j : GroupPair) → slice_get ks i ≡ Some j → among ks j ≡ true
among-one [] i j e = absurd (let no : None ≡ Some j = e in cc)
among-one (x ∷ xs) zero j e =
    (let is : Some x ≡ Some j = e in let same : x ≡ j = cc in ap (λ (n : GroupPair). eq_by_cmp group_pair_cmp j n || among xs j) same ∙ ap (λ b. b || among xs j) (same_pair j))
among-one (x ∷ xs) (suc i) j e = ap (λ b. eq_by_cmp group_pair_cmp j x || b) (among-one xs i j e) ∙ or-true (eq_by_cmp group_pair_cmp j x)

pub among-all : (ks : List GroupPair) (k : GroupPair) → among (take (length ks) ks) k ≡ among ks k
among-all [] k = refl
among-all (x ∷ xs) k = ap (λ b. eq_by_cmp group_pair_cmp k x || b) (among-all xs k)

-- other pairs keep their ports
pub pair-kept : (k j : GroupPair) (p q : ℕ) → eq_by_cmp group_pair_cmp k j ≡ false → eq_by_cmp membership_cmp (k.0, k.1, q) (j.0, j.1, p) ≡ false
pair-kept k j p q other = ap is_eq (by_pair k j q p) ∙ by (group_pair_cmp k j) (nat_cmp q p) other
  where
    by : (r s : Ordering) → is_eq r ≡ false → is_eq (ordering_then r s) ≡ false
    by Less s h = refl
    by Equal s h = absurd (let no : true ≡ false = h in cc)
    by Greater s h = refl

pub ports-joined : (ms : List Membership) (v p : ℕ) (g : Group) (k : GroupPair) (q : ℕ) → eq_by_cmp group_pair_cmp k (v, g) ≡ false
    → has_number (ports_in (joined membership_cmp ms (v, g, p)) k.0 k.1) q ≡ has_number (ports_in ms k.0 k.1) q
ports-joined ms v p g k q other =
    has-ports q k.0 k.1 (joined membership_cmp ms (v, g, p)) ∙ any-joined (eq_by_cmp membership_cmp (k.0, k.1, q)) ms (v, g, p)
    ∙ ap (λ b. b || has membership_cmp ms (k.0, k.1, q)) (pair-kept k (v, g) p q other) ∙ sym (has-ports q k.0 k.1 ms)

pub ports-parted : (ms : List Membership) (v p : ℕ) (g : Group) (k : GroupPair) (q : ℕ) → eq_by_cmp group_pair_cmp k (v, g) ≡ false
    → has_number (ports_in (parted membership_cmp ms (v, g, p)) k.0 k.1) q ≡ has_number (ports_in ms k.0 k.1) q
ports-parted ms v p g k q other =
    has-ports q k.0 k.1 (parted membership_cmp ms (v, g, p))
    ∙ any-filter_same (eq_by_cmp membership_cmp (k.0, k.1, q)) (λ n. not (eq_by_cmp membership_cmp (v, g, p) n)) true (λ n tie. ap not (apart n tie (membership_cmp (v, g, p) n) refl)) ms
    ∙ sym (has-ports q k.0 k.1 ms)
  where
    apart : (n : Membership) → eq_by_cmp membership_cmp (k.0, k.1, q) n ≡ true → (r : Ordering) → membership_cmp (v, g, p) n ≡ r → is_eq r ≡ false
    apart n tie Less is = refl
    apart n tie Greater is = refl
    apart n tie Equal is =
        absurd (let no : false ≡ true = sym (pair-kept k (v, g) p q other) ∙ ap (λ (x : Membership). eq_by_cmp membership_cmp (k.0, k.1, q) x) (equal_members (v, g, p) n is) ∙ tie in cc)

-- a member that parts leaves no new pair
any-cond : (test : Membership → Bool) (b : Bool) (x : Membership) (rest : List Membership) → list_any test (cond b (x ∷ rest) rest) ≡ cond b (test x || list_any test rest) (list_any test rest)
any-cond test true x rest = refl
any-cond test false x rest = refl

pub pair-less : (ms : List Membership) (m : Membership) (k : GroupPair) → has_pair (parted membership_cmp ms m) k ≡ true → has_pair ms k ≡ true
pair-less [] m k h = h
pair-less (x ∷ xs) m k h =
    by (not (eq_by_cmp membership_cmp m x)) (eq_by_cmp group_pair_cmp k (x.0, x.1)) (has_pair (parted membership_cmp xs m) k) (pair-less xs m k)
    (sym (any-cond (λ n. eq_by_cmp group_pair_cmp k (n.0, n.1)) (not (eq_by_cmp membership_cmp m x)) x (parted membership_cmp xs m)) ∙ h)
  where
    by : (b c r : Bool) → (r ≡ true → has_pair xs k ≡ true) → cond b (c || r) r ≡ true → (c || has_pair xs k) ≡ true
    by b true r rest h = refl
    by true false r rest h = rest h
    by false false r rest h = rest h

-- a pair without ports has no member
pub pair-ports : (ms : List Membership) (k : GroupPair) (empty : Bool) → IsTrue empty ↔ (ports_in ms k.0 k.1 ≡ []) → has_pair ms k ≡ not empty
pair-ports ms k empty tells = by (has_pair ms k) empty (none ms) tells
  where
    none : (ms : List Membership) → (has_pair ms k ≡ false) ↔ (ports_in ms k.0 k.1 ≡ [])
    none [] = ((λ _. refl), (λ _. refl))
    none (m ∷ ms) = step (m.0 == k.0 && is_eq (group_cmp m.1 k.1)) (is_of_pair k (m.0, m.1)) (none ms)
      where
        step : (b : Bool) → b ≡ eq_by_cmp group_pair_cmp k (m.0, m.1) → (has_pair ms k ≡ false) ↔ (ports_in ms k.0 k.1 ≡ [])
            → ((eq_by_cmp group_pair_cmp k (m.0, m.1) || has_pair ms k) ≡ false) ↔ (map (λ n. n.2)
            (cond b (m ∷ filter (λ n. n.0 == k.0 && is_eq (group_cmp n.1 k.1)) ms) (filter (λ n. n.0 == k.0 && is_eq (group_cmp n.1 k.1)) ms)) ≡ [])
        step true e h = ((λ no. absurd (let f : true ≡ false = ap (λ b. b || has_pair ms k) e ∙ no in cc)), (λ no. absurd (cc)))
        step false e h =
            ((λ no. h.0 (ap (λ b. b || has_pair ms k) e ∙ no)), (λ nil. ap (λ b. b || has_pair ms k) (sym e) ∙ h.1 nil))

    by : (b e : Bool) → (b ≡ false) ↔ (ports_in ms k.0 k.1 ≡ []) → IsTrue e ↔ (ports_in ms k.0 k.1 ≡ []) → b ≡ not e
    by true true h t = h.1 (t.0 refl)
    by true false h t = refl
    by false true h t = refl
    by false false h t = (let no : IsTrue false = t.1 (h.0 refl) in cc)

-- ---- rows of addresses

module _ {K X Y : Type 0} (R : K → K → Ordering) (f : X → Y) where
  abbrev pub mapped : List (K × X) → List (K × Y)
  mapped es = map (λ e. (e.0, f e.1)) es

  pub mapped-put : (es : List (K × X)) (k : K) (x : X) → mapped (put R es k x) ≡ put R (mapped es) k (f x)
  mapped-put [] k x = refl
  mapped-put (e ∷ es) k x = by (R k e.0) ∙ ap (λ rest. by_order (R k e.0) ((k, f x) ∷ mapped (e ∷ es)) ((e.0, f x) ∷ mapped es) ((e.0, f e.1) ∷ rest)) (mapped-put es k x)
    where
      by : (r : Ordering)
          → mapped (by_order r ((k, x) ∷ e ∷ es) ((e.0, x) ∷ es) (e ∷ put R es k x)) ≡ by_order r ((k, f x) ∷ mapped (e ∷ es)) ((e.0, f x) ∷ mapped es) ((e.0, f e.1) ∷ mapped (put R es k x))
      by Less = refl
      by Equal = refl
      by Greater = refl

  pub mapped-without : (es : List (K × X)) (k : K) → mapped (without R es k) ≡ without R (mapped es) k
  mapped-without [] k = refl
  mapped-without (e ∷ es) k = by (eq_by_cmp R k e.0) ∙ ap (λ rest. cond (not (eq_by_cmp R k e.0)) ((e.0, f e.1) ∷ rest) rest) (mapped-without es k)
    where
      by : (b : Bool) → mapped (cond (not b) (e ∷ without R es k) (without R es k)) ≡ cond (not b) ((e.0, f e.1) ∷ mapped (without R es k)) (mapped (without R es k))
      by true = refl
      by false = refl
