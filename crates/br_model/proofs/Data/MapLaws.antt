-- The ordered maps and sets of std are the finite maps and sets of the definitions.
use Rattle.std.proofs.Common.{◌≡◌, Bool, true, false, not, cond, List, [], ◌∷◌, Some, refl, sym, ap, ◌∙◌}
use Rattle.std.specs.List.{filter, AllByRecursion}
use Rattle.std.specs.List.Sorted.{IsStrictlySortedBy}
use Rattle.std.specs.declared.cmp.Ordering.{Ordering}
use Rattle.std.specs.declared.cmp.Ordering.TheVariants.{Less, Equal, Greater}
use Rattle.std.specs.Ordering.{is_eq, eq_by_cmp, match_ordering}
use Rattle.std.specs.Cmp.{IsTotalOrder}
use Rattle.std.specs.BTreeMap.{insert_entry, is_at}
use Rattle.std.specs.Map.{lookup, remove_entry, keys_of}
use Rattle.std.specs.Set.{remove_key}
use Rattle.std.specs.FinMap.Entries.{by_order}
use Rattle.lemmas.proofs.Orders.{is_eq-true}
use Rattle.br_model.specs.Data.Maps.{get, put, without, parted}

pub insert_entry-is : {K X : Type 0} (R : K → K → Ordering) (es : List (K × X)) (k : K) (v : X) → insert_entry R es k v ≡ put R es k v
insert_entry-is R [] k v = refl
insert_entry-is R (e ∷ es) k v =
    ap (λ rest. match_ordering (R k e.0) ((k, v) ∷ e ∷ es) ((e.0, v) ∷ es) (e ∷ rest)) (insert_entry-is R es k v) ∙ same (R k e.0)
  where
    same : (r : Ordering) → match_ordering r ((k, v) ∷ e ∷ es) ((e.0, v) ∷ es) (e ∷ put R es k v) ≡ by_order r ((k, v) ∷ e ∷ es) ((e.0, v) ∷ es) (e ∷ put R es k v)
    same Less = refl
    same Equal = refl
    same Greater = refl

pub lookup-is : {K X : Type 0} (R : K → K → Ordering) (k : K) (es : List (K × X)) → lookup (is_at (R k)) es ≡ get R es k
lookup-is R k [] = refl
lookup-is R k (e ∷ es) = ap (λ o. cond (is_at (R k) e.0) (Some e.1) o) (lookup-is R k es)

-- a test that all pass keeps all
keeps_all : {X : Type 0} (p : X → Bool) (xs : List X) → AllByRecursion (λ x. p x ≡ true) xs → filter p xs ≡ xs
keeps_all p [] h = refl
keeps_all p (x ∷ xs) h = ap (λ b. cond b (x ∷ filter p xs) (filter p xs)) h.0 ∙ ap (λ rest. x ∷ rest) (keeps_all p xs h.1)

-- a key that ties with the first ties with none after it
module _ {K : Type 0} {R : K → K → Ordering} (o : IsTotalOrder R) where
  later : (k x : K) (xs : List K) → R k x ≡ Equal → AllByRecursion (λ y. R x y ≡ Less) xs → AllByRecursion (λ y. not (eq_by_cmp R k y) ≡ true) xs
  later k x [] tie h = h
  later k x (y ∷ ys) tie h = (ap (λ r. not (is_eq r)) (o.congr k x y tie ∙ h.0), later k x ys tie h.1)

  later_entries : {X : Type 0} (k x : K) (es : List (K × X)) → R k x ≡ Equal → AllByRecursion (λ y. R x y ≡ Less) (keys_of es)
      → AllByRecursion (λ e. not (eq_by_cmp R k e.0) ≡ true) es
  later_entries k x [] tie h = h
  later_entries k x (e ∷ es) tie h = (ap (λ r. not (is_eq r)) (o.congr k x e.0 tie ∙ h.0), later_entries k x es tie h.1)

  pub remove_key-is : (k : K) (xs : List K) → IsStrictlySortedBy R xs → remove_key (is_at (R k)) xs ≡ parted R xs k
  unfolding IsStrictlySortedBy
  remove_key-is k [] h = refl
  remove_key-is k (x ∷ xs) h =
      ap (λ rest. cond (is_eq (R k x)) xs (x ∷ rest)) (remove_key-is k xs h.1) ∙ by (is_eq (R k x)) refl
    where
      by : (b : Bool) → is_eq (R k x) ≡ b → cond b xs (x ∷ parted R xs k) ≡ cond (not b) (x ∷ parted R xs k) (parted R xs k)
      by true e = sym (keeps_all (λ y. not (eq_by_cmp R k y)) xs (later k x xs (is_eq-true (R k x) e) h.0))
      by false e = refl

  pub remove_entry-is : {X : Type 0} (k : K) (es : List (K × X)) → IsStrictlySortedBy R (keys_of es) → remove_entry (is_at (R k)) es ≡ without R es k
  unfolding IsStrictlySortedBy
  remove_entry-is k [] h = refl
  remove_entry-is {X} k (e ∷ es) h =
      ap (λ rest. cond (is_eq (R k e.0)) es (e ∷ rest)) (remove_entry-is k es h.1) ∙ by (is_eq (R k e.0)) refl
    where
      by : (b : Bool) → is_eq (R k e.0) ≡ b → cond b es (e ∷ without R es k) ≡ cond (not b) (e ∷ without R es k) (without R es k)
      by true same = sym (keeps_all (λ (f : K × X). not (eq_by_cmp R k f.0)) es (later_entries k e.0 es (is_eq-true (R k e.0) same) h.0))
      by false same = refl
