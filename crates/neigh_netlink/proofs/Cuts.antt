-- Entries whose keys ascend, cut in two at a place.
use Rattle.std.proofs.Common.{◌≡◌, ℕ, ◌+◌, ◌<◌, ◌≤◌, Bool, true, false, not, cond, Some, None, Result, Ok, Err, IfOk, IfErr, ◌&&◌}
use Rattle.std.proofs.Common.{[], ◌∷◌, ◌++◌, length, take, drop, get_or, set, zero, suc, refl, sym, ap, subst, ◌∙◌, add-one, arith}
use Rattle.std.specs.Prelude.{IsTrue}
use Rattle.std.specs.List.{list_all}
use Rattle.std.specs.List.Sorted.{IsSearchInRange, IsBinarySearchResult, IsNonDecreasingBy}
use Rattle.std.specs.Ordering.{is_lt, is_gt, is_eq, eq_by_cmp, ordering_index, ordering_reverse}
use Rattle.std.specs.declared.cmp.Ordering.{Ordering}
use Rattle.std.specs.declared.cmp.Ordering.TheVariants.{Less, Equal, Greater}
use Rattle.std.specs.Cmp.{alike_right, first_so, second_so}
use Rattle.std.specs.Bool.{passes}
use Rattle.std.specs.FinMap.Entries.{below_all, by_order, is_sorted-put, is_sorted-where_key}
use Rattle.std.proofs.lemmas.List.{take-append-drop, take_more, get_or_default}
use Rattle.std.proofs.lemmas.List.Folds.{list_all-append}
use Rattle.std.proofs.Math.Seq.{drop-cons}
use Rattle.lemmas.proofs.Tests.{true_from_T}
use Rattle.lemmas.proofs.Orders.{is_lt-true, is_gt-true}
use Rattle.lemmas.proofs.Numbers.{suc-add-one}
use Rattle.br_model.specs.declared.change.Kind.TheVariants.{Local}
use Rattle.br_model.specs.Data.Maps.{pair_cmp, get, put, without, is_ascending}
use Rattle.br_model.proofs.Data.PairKeys.{pair_total}
use Rattle.neigh_netlink.specs.declared.entries.Entry.{Entry}
use Rattle.neigh_netlink.specs.Neighbours.{Key, Neighbours}
use Rattle.neigh_netlink.specs.Places.{all_below, all_above, IsAt, IsGap}

both : (a b : Bool) → IsTrue (a && b) → IsTrue a × IsTrue b
both a b h = (first_so a b h, second_so a b h)

holds : (b : Bool) → IsTrue b → b ≡ true
holds b h = h

-- the other way round
turned : (x y : Key) (r : Ordering) → pair_cmp x y ≡ r → pair_cmp y x ≡ ordering_reverse r
turned x y r e = pair_total.antisymm y x ∙ ap ordering_reverse e

here : (es : Neighbours) (i : ℕ) (e : Key × Entry) → i < length es → drop i es ≡ get_or es i e ∷ drop (i + 1) es
here es i e h = rw add-one (drop-cons es i e h)

-- the place i and what stands there
pub cut : (es : Neighbours) (i : ℕ) (e : Key × Entry) → i < length es → es ≡ take i es ++ get_or es i e ∷ drop (i + 1) es
cut es i e h = sym (take-append-drop i es) ∙ ap (λ (f : Neighbours). take i es ++ f) (here es i e h)

below_rest : (x : Key) (front rest : Neighbours) → IsTrue (below_all pair_cmp x (front ++ rest)) → IsTrue (below_all pair_cmp x rest)
below_rest x [] rest h = h
below_rest x (e ∷ front) rest h = below_rest x front rest (both _ _ h).1

ascending_rest : (front rest : Neighbours) → IsTrue (is_ascending pair_cmp (front ++ rest)) → IsTrue (is_ascending pair_cmp rest)
ascending_rest [] rest h = h
ascending_rest (e ∷ front) rest h = ascending_rest front rest (both _ _ h).1

-- the keys before a place are below the key there
before_all : (front rest : Neighbours) (e : Key × Entry) → IsTrue (is_ascending pair_cmp (front ++ e ∷ rest)) → list_all (λ x. is_lt (pair_cmp x.0 e.0)) front ≡ true
before_all [] rest e h = refl
before_all (x ∷ front) rest e h =
    let parts = both _ _ h in
    let here = holds _ (both _ _ (below_rest x.0 front (e ∷ rest) parts.0)).0 in
    ap (λ b. b && list_all (λ y. is_lt (pair_cmp y.0 e.0)) front) here ∙ before_all front rest e parts.1

-- keys that are below one that is not above k
pub below_from : (k m : Key) → ((x : Key) → pair_cmp x m ≡ Less → pair_cmp k x ≡ Greater) → (front : Neighbours) → list_all (λ x. is_lt (pair_cmp x.0 m)) front ≡ true → all_below k front ≡ true
below_from k m goes [] h = refl
below_from k m goes (x ∷ front) h =
    ap (λ r. is_gt r && all_below k front) (goes x.0 (is_lt-true _ (first_so _ _ h))) ∙ below_from k m goes front (second_so _ _ h)

pub above_from : (k m : Key) → ((x : Key) → pair_cmp m x ≡ Less → pair_cmp k x ≡ Less) → (rest : Neighbours) → IsTrue (below_all pair_cmp m rest) → all_above k rest ≡ true
above_from k m goes [] h = refl
above_from k m goes (x ∷ rest) h =
    let parts = both _ _ h in
    ap (λ r. is_lt r && all_above k rest) (goes x.0 (is_lt-true _ (holds _ parts.0))) ∙ above_from k m goes rest parts.1

-- k is below what stands at i
pub above_place : (es : Neighbours) (k : Key) (i : ℕ) (d e : Key × Entry) → IsTrue (is_ascending pair_cmp es) → i < length es → e ≡ get_or es i d → pair_cmp k e.0 ≡ Less
    → all_above k (drop i es) ≡ true
above_place es k i d e sorted within is less =
    let split : drop i es ≡ e ∷ drop (i + 1) es = here es i d within ∙ ap (λ x. x ∷ drop (i + 1) es) (sym is) in
    let rest : IsTrue (is_ascending pair_cmp (e ∷ drop (i + 1) es)) =
    subst (λ (f : Neighbours). IsTrue (is_ascending pair_cmp f)) split
    (ascending_rest (take i es) (drop i es) (subst (λ (f : Neighbours). IsTrue (is_ascending pair_cmp f)) (sym (take-append-drop i es)) sorted)) in
    ap (all_above k) split
    ∙ ap (λ r. is_lt r && all_above k (drop (i + 1) es)) less
    ∙ above_from k e.0 (λ x more. pair_total.trans k e.0 x less more) (drop (i + 1) es) (both _ _ rest).0

-- k is above what stands at i
pub below_place : (es : Neighbours) (k : Key) (i : ℕ) (d e : Key × Entry) → IsTrue (is_ascending pair_cmp es) → i < length es → e ≡ get_or es i d → pair_cmp k e.0 ≡ Greater
    → all_below k (take (i + 1) es) ≡ true
below_place es k i d e sorted within is more =
    let split : es ≡ take i es ++ e ∷ drop (i + 1) es = cut es i d within ∙ ap (λ x. take i es ++ x ∷ drop (i + 1) es) (sym is) in
    let front = before_all (take i es) (drop (i + 1) es) e (subst (λ (f : Neighbours). IsTrue (is_ascending pair_cmp f)) split sorted) in
    ap (all_below k) (take_more es i d within ∙ ap (λ x. take i es ++ x ∷ []) (sym is))
    ∙ list_all-append (λ x. is_gt (pair_cmp k x.0)) (take i es) (e ∷ [])
    ∙ ap (λ b. b && (is_gt (pair_cmp k e.0) && true)) (below_from k e.0 (λ x less. turned x k Less (pair_total.trans x e.0 k less (turned k e.0 Greater more))) (take i es) front)
    ∙ ap (λ r. is_gt r && true) more

-- k is what stands at i
pub is_at : (es : Neighbours) (k : Key) (i : ℕ) (d e : Key × Entry) → IsTrue (is_ascending pair_cmp es) → i < length es → e ≡ get_or es i d → pair_cmp k e.0 ≡ Equal → IsAt es k i
is_at es k i d e sorted within is same =
    let split : es ≡ take i es ++ e ∷ drop (i + 1) es = cut es i d within ∙ ap (λ x. take i es ++ x ∷ drop (i + 1) es) (sym is) in
    let whole : IsTrue (is_ascending pair_cmp (take i es ++ e ∷ drop (i + 1) es)) = subst (λ (f : Neighbours). IsTrue (is_ascending pair_cmp f)) split sorted in
    let rest : IsTrue (is_ascending pair_cmp (e ∷ drop (i + 1) es)) = ascending_rest (take i es) (e ∷ drop (i + 1) es) whole in
    record {
      entry = e;
      reads = λ x. get_or_default es i x d within ∙ sym is;
      splits = split;
      within = within;
      same = same;
      before = below_from k e.0 (λ x less. turned x k Less (alike_right pair_total k e.0 x same ∙ less)) (take i es) (before_all (take i es) (drop (i + 1) es) e whole);
      after = above_from k e.0 (λ x more. pair_total.congr k e.0 x same ∙ more) (drop (i + 1) es) (both _ _ rest).0;
    }

apart : Key → Key → Bool
apart k q = not (eq_by_cmp pair_cmp k q)

put_front : (k : Key) (v : Entry) (front rest : Neighbours) → all_below k front ≡ true → put pair_cmp (front ++ rest) k v ≡ front ++ put pair_cmp rest k v
put_front k v [] rest h = refl
put_front k v (x ∷ front) rest h =
    ap (λ r. by_order r ((k, v) ∷ x ∷ (front ++ rest)) ((x.0, v) ∷ (front ++ rest)) (x ∷ put pair_cmp (front ++ rest) k v)) (is_gt-true _ (first_so _ _ h))
    ∙ ap (λ (f : Neighbours). x ∷ f) (put_front k v front rest (second_so _ _ h))

get_front : (k : Key) (front rest : Neighbours) → all_below k front ≡ true → get pair_cmp (front ++ rest) k ≡ get pair_cmp rest k
get_front k [] rest h = refl
get_front k (x ∷ front) rest h =
    ap (λ r. cond (is_eq r) (Some x.1) (get pair_cmp (front ++ rest) k)) (is_gt-true _ (first_so _ _ h)) ∙ get_front k front rest (second_so _ _ h)

get_above : (k : Key) (rest : Neighbours) → all_above k rest ≡ true → get pair_cmp rest k ≡ None
get_above k [] h = refl
get_above k (x ∷ rest) h =
    ap (λ r. cond (is_eq r) (Some x.1) (get pair_cmp rest k)) (is_lt-true _ (first_so _ _ h)) ∙ get_above k rest (second_so _ _ h)

put_above : (k : Key) (v : Entry) (rest : Neighbours) → all_above k rest ≡ true → put pair_cmp rest k v ≡ (k, v) ∷ rest
put_above k v [] h = refl
put_above k v (x ∷ rest) h =
    ap (λ r. by_order r ((k, v) ∷ x ∷ rest) ((x.0, v) ∷ rest) (x ∷ put pair_cmp rest k v)) (is_lt-true _ (first_so _ _ h))

without_front : (k : Key) (front rest : Neighbours) → all_below k front ≡ true → without pair_cmp (front ++ rest) k ≡ front ++ without pair_cmp rest k
without_front k [] rest h = refl
without_front k (x ∷ front) rest h =
    ap (λ r. cond (not (is_eq r)) (x ∷ without pair_cmp (front ++ rest) k) (without pair_cmp (front ++ rest) k)) (is_gt-true _ (first_so _ _ h))
    ∙ ap (λ (f : Neighbours). x ∷ f) (without_front k front rest (second_so _ _ h))

without_above : (k : Key) (rest : Neighbours) → all_above k rest ≡ true → without pair_cmp rest k ≡ rest
without_above k [] h = refl
without_above k (x ∷ rest) h =
    ap (λ r. cond (not (is_eq r)) (x ∷ without pair_cmp rest k) (without pair_cmp rest k)) (is_lt-true _ (first_so _ _ h))
    ∙ ap (λ (f : Neighbours). x ∷ f) (without_above k rest (second_so _ _ h))

-- where the key stands
pub get_at : (es : Neighbours) (k : Key) (i : ℕ) (at : IsAt es k i) → get pair_cmp es k ≡ Some at.entry.1
get_at es k i at =
    ap (λ (f : Neighbours). get pair_cmp f k) at.splits
    ∙ get_front k (take i es) (at.entry ∷ drop (i + 1) es) at.before
    ∙ ap (λ r. cond (is_eq r) (Some at.entry.1) (get pair_cmp (drop (i + 1) es) k)) at.same

pub put_at : (es : Neighbours) (k : Key) (i : ℕ) (at : IsAt es k i) (v : Entry) → put pair_cmp es k v ≡ take i es ++ (at.entry.0, v) ∷ drop (i + 1) es
put_at es k i at v =
    let e = at.entry in
    let rest = drop (i + 1) es in
    ap (λ (f : Neighbours). put pair_cmp f k v) at.splits
    ∙ put_front k v (take i es) (e ∷ rest) at.before
    ∙ ap (λ r. take i es ++ by_order r ((k, v) ∷ e ∷ rest) ((e.0, v) ∷ rest) (e ∷ put pair_cmp rest k v)) at.same

pub without_at : (es : Neighbours) (k : Key) (i : ℕ) → IsAt es k i → without pair_cmp es k ≡ take i es ++ drop (i + 1) es
without_at es k i at =
    let e = at.entry in
    let rest = drop (i + 1) es in
    ap (λ (f : Neighbours). without pair_cmp f k) at.splits
    ∙ without_front k (take i es) (e ∷ rest) at.before
    ∙ ap (λ r. take i es ++ cond (not (is_eq r)) (e ∷ without pair_cmp rest k) (without pair_cmp rest k)) at.same
    ∙ ap (λ (f : Neighbours). take i es ++ f) (without_above k rest at.after)

-- where it would go
pub get_gap : (es : Neighbours) (k : Key) (i : ℕ) → IsGap es k i → get pair_cmp es k ≡ None
get_gap es k i gap =
    ap (λ (f : Neighbours). get pair_cmp f k) (sym (take-append-drop i es)) ∙ get_front k (take i es) (drop i es) gap.before ∙ get_above k (drop i es) gap.after

pub put_gap : (es : Neighbours) (k : Key) (i : ℕ) (v : Entry) → IsGap es k i → put pair_cmp es k v ≡ take i es ++ (k, v) ∷ drop i es
put_gap es k i v gap =
    ap (λ (f : Neighbours). put pair_cmp f k v) (sym (take-append-drop i es))
    ∙ put_front k v (take i es) (drop i es) gap.before
    ∙ ap (λ (f : Neighbours). take i es ++ f) (put_above k v (drop i es) gap.after)

pub without_gap : (es : Neighbours) (k : Key) (i : ℕ) → IsGap es k i → without pair_cmp es k ≡ es
without_gap es k i gap =
    ap (λ (f : Neighbours). without pair_cmp f k) (sym (take-append-drop i es))
    ∙ without_front k (take i es) (drop i es) gap.before
    ∙ ap (λ (f : Neighbours). take i es ++ f) (without_above k (drop i es) gap.after)
    ∙ take-append-drop i es

-- the keys still ascend
pub ascending-put : (es : Neighbours) (k : Key) (v : Entry) → IsTrue (is_ascending pair_cmp es) → IsTrue (is_ascending pair_cmp (put pair_cmp es k v))
ascending-put es k v h = true_from_T _ (is_sorted-put pair_cmp pair_total k v es (passes _ h))

pub ascending-without : (es : Neighbours) (k : Key) → IsTrue (is_ascending pair_cmp es) → IsTrue (is_ascending pair_cmp (without pair_cmp es k))
ascending-without es k h = true_from_T _ (is_sorted-where_key pair_cmp _ es (passes _ h))

pub set-splits : (es : Neighbours) (i : ℕ) (x : Key × Entry) → i < length es → set es i x ≡ take i es ++ x ∷ drop (i + 1) es
set-splits [] i x h = absurd (omega arith)
set-splits (e ∷ es) zero x h = refl
set-splits (e ∷ es) (suc i) x h =
    let next : drop (suc i + 1) (e ∷ es) ≡ drop (i + 1) es = ap (λ n. drop n (e ∷ es)) (suc-add-one i) in
    ap (λ (f : Neighbours). e ∷ f) (set-splits es i x (omega arith)) ∙ ap (λ (f : Neighbours). e ∷ (take i es ++ x ∷ f)) (sym next)

-- a binary search ends at the key, or at the gap for it

below_at : (x : Key) (es : Neighbours) → IsTrue (below_all pair_cmp x es) → (j : ℕ) (d : Key × Entry) → j < length es → pair_cmp x (get_or es j d).0 ≡ Less
below_at x [] h j d lt = absurd (omega arith)
below_at x (e ∷ es) h zero d lt = is_lt-true _ (holds _ (both _ _ h).0)
below_at x (e ∷ es) h (suc j) d lt = below_at x es (both _ _ h).1 j d (omega arith)

at_most_two : (r : Ordering) → ordering_index r ≤ 2
at_most_two Less = omega arith
at_most_two Equal = omega arith
at_most_two Greater = omega arith

-- what comes before is compared no higher
rises : (a b k : Key) → pair_cmp a b ≡ Less → ordering_index (pair_cmp a k) ≤ ordering_index (pair_cmp b k)
rises a b k less = by (pair_cmp b k) refl
  where
    by : (r : Ordering) → pair_cmp b k ≡ r → ordering_index (pair_cmp a k) ≤ ordering_index r
    by Less e = rw (pair_total.trans a b k less e) (omega arith)
    by Equal e = rw (sym (alike_right pair_total b k a e) ∙ less) (omega arith)
    by Greater e = at_most_two (pair_cmp a k)

all_rise : (k : Key) (es : Neighbours) → IsTrue (is_ascending pair_cmp es) → IsNonDecreasingBy (λ e. ordering_index (pair_cmp e.0 k)) es
all_rise k [] h i j d le lt = absurd (omega arith)
all_rise k (e ∷ es) h zero zero d le lt = omega arith
all_rise k (e ∷ es) h zero (suc j) d le lt = rises e.0 (get_or es j d).0 k (below_at e.0 es (both _ _ h).0 j d (omega arith))
all_rise k (e ∷ es) h (suc i) zero d le lt = absurd (omega arith)
all_rise k (e ∷ es) h (suc i) (suc j) d le lt = all_rise k es (both _ _ h).1 i j d (omega arith) (omega arith)

front_below : (k : Key) (es : Neighbours) (i : ℕ) → i ≤ length es → ((j : ℕ) (d : Key × Entry) → j < i → pair_cmp (get_or es j d).0 k ≡ Less) → all_below k (take i es) ≡ true
front_below k es zero le h = refl
front_below k [] (suc i) le h = absurd (omega arith)
front_below k (e ∷ es) (suc i) le h =
    ap (λ r. is_gt r && all_below k (take i es)) (turned e.0 k Less (h 0 e (omega arith))) ∙ front_below k es i (omega arith) (λ j d lt. h (suc j) d (omega arith))

rest_above : (k : Key) (es : Neighbours) (i : ℕ) → ((j : ℕ) (d : Key × Entry) → i ≤ j → j < length es → pair_cmp (get_or es j d).0 k ≡ Greater) → all_above k (drop i es) ≡ true
rest_above k [] zero h = refl
rest_above k [] (suc i) h = refl
rest_above k (e ∷ es) zero h =
    ap (λ r. is_lt r && all_above k es) (turned e.0 k Greater (h 0 e (omega arith) (omega arith))) ∙ rest_above k es zero (λ j d le lt. h (suc j) d (omega arith) (omega arith))
rest_above k (e ∷ es) (suc i) h = rest_above k es i (λ j d le lt. h (suc j) d (omega arith) (omega arith))

-- some entry
nobody : Key × Entry
nobody = ((0, 0), record { port = 0; kind = Local; offload = false })

pub searched : (es : Neighbours) (k : Key) → IsTrue (is_ascending pair_cmp es) → (r : Result ℕ ℕ) → IsSearchInRange r (length es)
    → IsBinarySearchResult (λ e. pair_cmp e.0 k) es r → record { found : IfOk r (IsAt es k); gap : IfErr r (IsGap es k) }
searched es k sorted (Ok at) within equal = record { found = is_at es k at nobody (get_or es at nobody) sorted within refl (turned _ k Equal (equal nobody)); gap = tt }
searched es k sorted (Err at) within parted = record {
  found = tt;
  gap = record {
    within = within;
    before = front_below k es at within (λ j e lt. (parted (all_rise k es sorted)).0 j e (omega arith) lt);
    after = rest_above k es at (λ j e le lt. (parted (all_rise k es sorted)).1 j e le lt);
  };
}
