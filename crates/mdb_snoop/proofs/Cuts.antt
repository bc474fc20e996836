-- Lists of entries in the order of their keys, cut in two at a place.
use Rattle.std.proofs.Common.{◌≡◌, ℕ, ◌+◌, ◌<◌, true, not, cond, Some, None, ◌&&◌, List, [], ◌∷◌, ◌++◌, length, take, drop, get_or, set, zero, suc, refl, sym, ap, ◌∙◌, add-one, arith}
use Rattle.std.specs.List.{list_all}
use Rattle.std.specs.Ordering.{is_lt, is_gt, is_eq, ordering_reverse}
use Rattle.std.specs.declared.cmp.Ordering.{Ordering}
use Rattle.std.specs.declared.cmp.Ordering.TheVariants.{Less, Greater}
use Rattle.std.specs.Cmp.{IsTotalOrder, first_so, second_so}
use Rattle.std.specs.FinMap.Entries.{below_all, by_order}
use Rattle.std.proofs.lemmas.List.{take-append-drop, take_more}
use Rattle.std.proofs.lemmas.List.Folds.{list_all-append}
use Rattle.std.proofs.Math.Seq.{drop-cons}
use Rattle.lemmas.proofs.Orders.{is_lt-true, is_gt-true}
use Rattle.lemmas.proofs.Numbers.{suc-add-one}
use Rattle.br_model.specs.Data.Maps.{get, put, without, is_ascending}
use Rattle.mdb_snoop.specs.Places.{all_below, all_above}

-- the other way round
turned : {K : Type 0} {R : K → K → Ordering} → IsTotalOrder R → (x y : K) (r : Ordering) → R x y ≡ r → R y x ≡ ordering_reverse r
turned o x y r e = o.antisymm y x ∙ ap ordering_reverse e

module _ {K V : Type 0} (R : K → K → Ordering) where
  here : (es : List (K × V)) (i : ℕ) (e : K × V) → i < length es → drop i es ≡ get_or es i e ∷ drop (i + 1) es
  here es i e h = rw add-one (drop-cons es i e h)

  -- the place i and what stands there
  pub cut : (es : List (K × V)) (i : ℕ) (e : K × V) → i < length es → es ≡ take i es ++ get_or es i e ∷ drop (i + 1) es
  cut es i e h = sym (take-append-drop i es) ∙ ap (λ f. take i es ++ f) (here es i e h)

  below_rest : (x : K) (front rest : List (K × V)) → below_all R x (front ++ rest) ≡ true → below_all R x rest ≡ true
  below_rest x [] rest h = h
  below_rest x (e ∷ front) rest h = below_rest x front rest (second_so _ _ h)

  ascending_rest : (front rest : List (K × V)) → is_ascending R (front ++ rest) ≡ true → is_ascending R rest ≡ true
  ascending_rest [] rest h = h
  ascending_rest (e ∷ front) rest h = ascending_rest front rest (second_so _ _ h)

  -- the keys before a place are below the key there
  before_all : (front rest : List (K × V)) (e : K × V) → is_ascending R (front ++ e ∷ rest) ≡ true → list_all (λ x. is_lt (R x.0 e.0)) front ≡ true
  before_all [] rest e h = refl
  before_all (x ∷ front) rest e h =
      let at = first_so _ _ (below_rest x.0 front (e ∷ rest) (first_so _ _ h)) in
      ap (λ b. b && list_all (λ y. is_lt (R y.0 e.0)) front) at ∙ before_all front rest e (second_so _ _ h)

  below_from : (k m : K) → ((x : K) → R x m ≡ Less → R k x ≡ Greater) → (front : List (K × V)) → list_all (λ x. is_lt (R x.0 m)) front ≡ true → all_below R k front ≡ true
  below_from k m goes [] h = refl
  below_from k m goes (x ∷ front) h =
      ap (λ r. is_gt r && all_below R k front) (goes x.0 (is_lt-true _ (first_so _ _ h))) ∙ below_from k m goes front (second_so _ _ h)

  pub above_from : (k m : K) → ((x : K) → R m x ≡ Less → R k x ≡ Less) → (rest : List (K × V)) → below_all R m rest ≡ true → all_above R k rest ≡ true
  above_from k m goes [] h = refl
  above_from k m goes (x ∷ rest) h =
      ap (λ r. is_lt r && all_above R k rest) (goes x.0 (is_lt-true _ (first_so _ _ h))) ∙ above_from k m goes rest (second_so _ _ h)

  -- k is below each key, as the definitions of the order say it
  pub below_first : (k : K) (es : List (K × V)) → all_above R k es ≡ true → below_all R k es ≡ true
  below_first k [] h = refl
  below_first k (e ∷ es) h = ap (λ b. b && below_all R k es) (first_so _ _ h) ∙ below_first k es (second_so _ _ h)

  -- what an entry below or above does to a call at k
  pub put_front : (k : K) (v : V) (front rest : List (K × V)) → all_below R k front ≡ true → put R (front ++ rest) k v ≡ front ++ put R rest k v
  put_front k v [] rest h = refl
  put_front k v (x ∷ front) rest h =
      ap (λ r. by_order r ((k, v) ∷ x ∷ (front ++ rest)) ((x.0, v) ∷ (front ++ rest)) (x ∷ put R (front ++ rest) k v)) (is_gt-true _ (first_so _ _ h))
      ∙ ap (λ f. x ∷ f) (put_front k v front rest (second_so _ _ h))

  pub get_front : (k : K) (front rest : List (K × V)) → all_below R k front ≡ true → get R (front ++ rest) k ≡ get R rest k
  get_front k [] rest h = refl
  get_front k (x ∷ front) rest h =
      ap (λ r. cond (is_eq r) (Some x.1) (get R (front ++ rest) k)) (is_gt-true _ (first_so _ _ h)) ∙ get_front k front rest (second_so _ _ h)

  pub get_above : (k : K) (rest : List (K × V)) → all_above R k rest ≡ true → get R rest k ≡ None
  get_above k [] h = refl
  get_above k (x ∷ rest) h =
      ap (λ r. cond (is_eq r) (Some x.1) (get R rest k)) (is_lt-true _ (first_so _ _ h)) ∙ get_above k rest (second_so _ _ h)

  pub put_above : (k : K) (v : V) (rest : List (K × V)) → all_above R k rest ≡ true → put R rest k v ≡ (k, v) ∷ rest
  put_above k v [] h = refl
  put_above k v (x ∷ rest) h =
      ap (λ r. by_order r ((k, v) ∷ x ∷ rest) ((x.0, v) ∷ rest) (x ∷ put R rest k v)) (is_lt-true _ (first_so _ _ h))

  pub without_front : (k : K) (front rest : List (K × V)) → all_below R k front ≡ true → without R (front ++ rest) k ≡ front ++ without R rest k
  without_front k [] rest h = refl
  without_front k (x ∷ front) rest h =
      ap (λ r. cond (not (is_eq r)) (x ∷ without R (front ++ rest) k) (without R (front ++ rest) k)) (is_gt-true _ (first_so _ _ h))
      ∙ ap (λ f. x ∷ f) (without_front k front rest (second_so _ _ h))

  pub without_above : (k : K) (rest : List (K × V)) → all_above R k rest ≡ true → without R rest k ≡ rest
  without_above k [] h = refl
  without_above k (x ∷ rest) h =
      ap (λ r. cond (not (is_eq r)) (x ∷ without R rest k) (without R rest k)) (is_lt-true _ (first_so _ _ h))
      ∙ ap (λ f. x ∷ f) (without_above k rest (second_so _ _ h))

  module _ (o : IsTotalOrder R) where
    ascending_at : (es : List (K × V)) (i : ℕ) (d e : K × V) → is_ascending R es ≡ true → i < length es → e ≡ get_or es i d → is_ascending R (take i es ++ e ∷ drop (i + 1) es) ≡ true
    ascending_at es i d e sorted within is = ap (is_ascending R) (sym (cut es i d within ∙ ap (λ x. take i es ++ x ∷ drop (i + 1) es) (sym is))) ∙ sorted

    -- k is below what stands at i
    pub above_place : (es : List (K × V)) (k : K) (i : ℕ) (d e : K × V) → is_ascending R es ≡ true → i < length es → e ≡ get_or es i d → R k e.0 ≡ Less → all_above R k (drop i es) ≡ true
    above_place es k i d e sorted within is less =
        let split : drop i es ≡ e ∷ drop (i + 1) es = here es i d within ∙ ap (λ x. x ∷ drop (i + 1) es) (sym is) in
        let rest : is_ascending R (e ∷ drop (i + 1) es) ≡ true = ascending_rest (take i es) (e ∷ drop (i + 1) es) (ascending_at es i d e sorted within is) in
        ap (all_above R k) split
        ∙ ap (λ r. is_lt r && all_above R k (drop (i + 1) es)) less
        ∙ above_from k e.0 (λ x more. o.trans k e.0 x less more) (drop (i + 1) es) (first_so _ _ rest)

    -- k is above what stands at i
    pub below_place : (es : List (K × V)) (k : K) (i : ℕ) (d e : K × V) → is_ascending R es ≡ true → i < length es → e ≡ get_or es i d → R k e.0 ≡ Greater → all_below R k (take (i + 1) es) ≡ true
    below_place es k i d e sorted within is more =
        let front = before_all (take i es) (drop (i + 1) es) e (ascending_at es i d e sorted within is) in
        ap (all_below R k) (take_more es i d within ∙ ap (λ x. take i es ++ x ∷ []) (sym is))
        ∙ list_all-append (λ x. is_gt (R k x.0)) (take i es) (e ∷ [])
        ∙ ap (λ b. b && (is_gt (R k e.0) && true)) (below_from k e.0 (λ x less. turned o x k Less (o.trans x e.0 k less (turned o k e.0 Greater more))) (take i es) front)
        ∙ ap (λ r. is_gt r && true) more

    -- what stands round the place of a key
    pub before_place : (es : List (K × V)) (i : ℕ) (d e : K × V) → is_ascending R es ≡ true → i < length es → e ≡ get_or es i d → all_below R e.0 (take i es) ≡ true
    before_place es i d e sorted within is =
        below_from e.0 e.0 (λ x less. turned o x e.0 Less less) (take i es) (before_all (take i es) (drop (i + 1) es) e (ascending_at es i d e sorted within is))

    pub after_place : (es : List (K × V)) (i : ℕ) (d e : K × V) → is_ascending R es ≡ true → i < length es → e ≡ get_or es i d → all_above R e.0 (drop (i + 1) es) ≡ true
    after_place es i d e sorted within is =
        let rest : is_ascending R (e ∷ drop (i + 1) es) ≡ true = ascending_rest (take i es) (e ∷ drop (i + 1) es) (ascending_at es i d e sorted within is) in
        above_from e.0 e.0 (λ x more. more) (drop (i + 1) es) (first_so _ _ rest)

pub set-splits : {X : Type 0} (es : List X) (i : ℕ) (x : X) → i < length es → set es i x ≡ take i es ++ x ∷ drop (i + 1) es
set-splits [] i x h = absurd (omega arith)
set-splits (e ∷ es) zero x h = refl
set-splits (e ∷ es) (suc i) x h =
    let next : drop (suc i + 1) (e ∷ es) ≡ drop (i + 1) es = ap (λ n. drop n (e ∷ es)) (suc-add-one i) in
    ap (λ f. e ∷ f) (set-splits es i x (omega arith)) ∙ ap (λ f. e ∷ (take i es ++ x ∷ f)) (sym next)
