-- What is told of each entry follows the entries: look-ups, puts and takes are the same there.
use Rattle.std.proofs.Common.{◌≡◌, ℕ, Bool, true, false, T, not, cond, ◌&&◌, None, Some, Option, option_map, is_some, List, [], ◌∷◌, map, refl, sym, ap, ap₂, ◌∙◌}
use Rattle.std.specs.Ordering.{eq_by_cmp, is_lt}
use Rattle.std.specs.declared.cmp.Ordering.TheVariants.{Less, Equal, Greater}
use Rattle.std.specs.FinMap.Entries.{by_order, below_all, is_sorted, is_sorted-put, find-put, same_entries}
use Rattle.std.proofs.lemmas.Float.{T_from_true}
use Rattle.lemmas.proofs.Orders.{is_eq-true}
use Rattle.br_model.specs.Data.Maps.{pair_cmp, get, put, without, is_ascending}
use Rattle.br_model.proofs.Data.PairKeys.{pair_total, same_cmp}
use Rattle.open_addressing.specs.Least.{smaller, least}
use Rattle.fdb_core.specs.declared.entries.Entry.{Entry}
use Rattle.fdb_core.specs.Fdb.{place, is_one, renewed_if}
use Rattle.fdb_core.specs.Packing.{by_address}
use Rattle.fdb_core.proofs.ByAddress.{Key}

abbrev pub told : {X : Type 0} → (Entry → X) → List (Key × Entry) → List (Key × X)
told f es = map (λ e. (e.0, f e.1)) es

-- what is there is put again
put-same : {X : Type 0} (m : List (Key × X)) (k : Key) (v : X) → T (is_sorted pair_cmp m) → get pair_cmp m k ≡ Some v → put pair_cmp m k v ≡ m
put-same {X} m k v up is =
    same_entries pair_cmp pair_total same_cmp (put pair_cmp m k v) m (is_sorted-put pair_cmp pair_total k v m up) up
    (λ q. find-put pair_cmp pair_total q k v m ∙ by q (eq_by_cmp pair_cmp q k) refl)
  where
    by : (q : Key) (b : Bool) → eq_by_cmp pair_cmp q k ≡ b → cond b (Some v) (get pair_cmp m q) ≡ get pair_cmp m q
    by q true e = sym (ap (get pair_cmp m) (same_cmp q k (is_eq-true _ e)) ∙ is)
    by q false e = refl

-- an entry that has the moment already is put again
pub renewed-same : (m : List (Key × Entry)) (k : Key) (e : Entry) (moment : ℕ) → is_ascending pair_cmp m ≡ true → get pair_cmp m k ≡ Some e → e.updated ≡ moment
    → put pair_cmp m k (record e { updated = moment }) ≡ m
renewed-same m k e moment up is now = ap (λ n. put pair_cmp m k (record e { updated = n })) (sym now) ∙ put-same m k e (T_from_true _ up) is

pub if_renewed-same : (passes : Entry → Bool) (m : List (Key × Entry)) (k : Key) (e : Entry) (moment : ℕ) → is_ascending pair_cmp m ≡ true → get pair_cmp m k ≡ Some e → e.updated ≡ moment
    → renewed_if passes moment k (Some e) m ≡ m
if_renewed-same passes m k e moment up is now = by (passes e) (renewed-same m k e moment up is now)
  where
    by : (b : Bool) → put pair_cmp m k (record e { updated = moment }) ≡ m → cond b (put pair_cmp m k (record e { updated = moment })) m ≡ m
    by true same = same
    by false same = refl

module _ {X : Type 0} (f : Entry → X) where
  pub get-told : (es : List (Key × Entry)) (k : Key) → get pair_cmp (told f es) k ≡ option_map f (get pair_cmp es k)
  get-told [] k = refl
  get-told (e ∷ es) k =
      elim (eq_by_cmp pair_cmp k e.0) as (λ b. cond b (Some (f e.1)) (get pair_cmp (told f es) k) ≡ option_map f (cond b (Some e.1) (get pair_cmp es k))) [
        | true ↦ refl
        | false ↦ get-told es k
      ]

  pub told-put : (es : List (Key × Entry)) (k : Key) (x : Entry) → told f (put pair_cmp es k x) ≡ put pair_cmp (told f es) k (f x)
  told-put [] k x = refl
  told-put (e ∷ es) k x =
      elim (pair_cmp k e.0) as
      (λ r. told f (by_order r ((k, x) ∷ e ∷ es) ((e.0, x) ∷ es) (e ∷ put pair_cmp es k x)) ≡ by_order r ((k, f x) ∷ told f (e ∷ es)) ((e.0, f x) ∷ told f es)
      ((e.0, f e.1) ∷ put pair_cmp (told f es) k (f x))) [
        | Less ↦ refl
        | Equal ↦ refl
        | Greater ↦ ap (λ (rest : List (Key × X)). (e.0, f e.1) ∷ rest) (told-put es k x)
      ]

  below-told : (k : Key) (es : List (Key × Entry)) → below_all pair_cmp k (told f es) ≡ below_all pair_cmp k es
  below-told k [] = refl
  below-told k (e ∷ es) = ap (λ b. is_lt (pair_cmp k e.0) && b) (below-told k es)

  sorted-told : (es : List (Key × Entry)) → is_sorted pair_cmp (told f es) ≡ is_sorted pair_cmp es
  sorted-told [] = refl
  sorted-told (e ∷ es) = ap₂ ◌&&◌ (below-told e.0 es) (sorted-told es)

  -- an entry of which the same is told changes nothing
  pub told-same : (es : List (Key × Entry)) (k : Key) (x : Entry) → is_ascending pair_cmp es ≡ true → get pair_cmp (told f es) k ≡ Some (f x) → told f (put pair_cmp es k x) ≡ told f es
  told-same es k x up is = told-put es k x ∙ put-same (told f es) k (f x) (T_from_true _ (sorted-told es ∙ up)) is

  pub told-without : (es : List (Key × Entry)) (k : Key) → told f (without pair_cmp es k) ≡ without pair_cmp (told f es) k
  told-without [] k = refl
  told-without (e ∷ es) k =
      elim (eq_by_cmp pair_cmp k e.0) as
      (λ b. told f (cond (not b) (e ∷ without pair_cmp es k) (without pair_cmp es k)) ≡ cond (not b) ((e.0, f e.1) ∷ without pair_cmp (told f es) k) (without pair_cmp (told f es) k)) [
        | true ↦ told-without es k
        | false ↦ ap (λ (rest : List (Key × X)). (e.0, f e.1) ∷ rest) (told-without es k)
      ]

-- what is told of the entries, where one of them is renewed

pub one_some : (o : Option Entry) → is_one (λ _. true) o ≡ is_some o
one_some None = refl
one_some (Some e) = refl

pub told-renewed : (passes : Entry → Bool) (moment : ℕ) (k : Key) (o : Option Entry) (es : List (Key × Entry)) → is_ascending pair_cmp es ≡ true → o ≡ get pair_cmp es k
    → told place (renewed_if passes moment k o es) ≡ told place es
told-renewed passes moment k None es up is = refl
told-renewed passes moment k (Some e) es up is = by (passes e) (told-same place es k (record e { updated = moment }) up (get-told place es k ∙ ap (option_map place) (sym is)))
  where
    by : (b : Bool) → told place (put pair_cmp es k (record e { updated = moment })) ≡ told place es → told place (cond b (put pair_cmp es k (record e { updated = moment })) es) ≡ told place es
    by true same = same
    by false same = refl

pub moments-renewed : (passes : Entry → Bool) (moment : ℕ) (k : Key) (o : Option Entry) (es : List (Key × Entry))
    → told (λ e. e.updated) (renewed_if passes moment k o es) ≡ cond (is_one passes o) (put pair_cmp (told (λ e. e.updated) es) k moment) (told (λ e. e.updated) es)
moments-renewed passes moment k None es = refl
moments-renewed passes moment k (Some e) es = by (passes e)
  where
    by : (b : Bool) → told (λ e. e.updated) (cond b (put pair_cmp es k (record e { updated = moment })) es) ≡ cond b (put pair_cmp (told (λ e. e.updated) es) k moment) (told (λ e. e.updated) es)
    by true = told-put (λ e. e.updated) es k (record e { updated = moment })
    by false = refl

pub least-by_address : (f : Entry → Option ℕ) (es : List (ℕ × Entry)) → least f (by_address es) ≡ least f es
least-by_address f [] = refl
least-by_address f (e ∷ es) = ap (smaller (f e.1)) (least-by_address f es)
