-- A finite map from ports, as the ascending list of the ports and a function.
use Rattle.std.proofs.Common.{◌≡◌, ℕ, zero, suc, ◌+◌, ◌<◌, Bool, true, false, not, ◌&&◌, cond, T, Option, Some, None, List, [], ◌∷◌, ◌++◌, length, map, set, refl, sym, ap, ◌∙◌, subst, arith}
use Rattle.std.specs.Prelude.{◌==◌, ◌||◌, nat_le, is_some, slice_get, slice_index}
use Rattle.std.specs.Cmp.{nat_cmp_total, nat_cmp_is, tied_itself, unsigned_ties}
use Rattle.std.specs.FinMap.Entries.{same_entries, is_sorted, below_all, is_sorted-put, is_sorted-where_key, find-put, find-where_key}
use Rattle.std.specs.List.{filter, range_with_len}
use Rattle.std.specs.FinMap.{nat_cmp-IsAntisymmetric}
use Rattle.std.specs.Ordering.{nat_cmp, is_lt, is_eq, eq_by_cmp}
use Rattle.std.specs.declared.cmp.Ordering.TheVariants.{Less, Equal}
use Rattle.std.proofs.lemmas.Bool.{eqb-true}
use Rattle.std.proofs.lemmas.List.{get_or-set_same, get_or-set_other}
use Rattle.std.proofs.Math.Bool.{and-false, and-true}
use Rattle.lemmas.proofs.Tests.{true_from_T, T_and}
use Rattle.lemmas.proofs.Orders.{is_eq-reverse}
use Rattle.lemmas.proofs.Numbers.{ne_from_eqb}
use Rattle.port_sets.specs.Numbers.{numbers_below, has_number, IsSetBelow}
use Rattle.port_sets.proofs.Building.{among_with, among_skip}
use Rattle.port_sets.specs.WordsOfMembers.{has-filter, has-below}
use Rattle.br_model.specs.Table.Domains.{port_places}
use Rattle.br_model.specs.Data.Maps.{get, put, without, is_ascending}
use Rattle.br_model.specs.Control.Ends.{due, due_members, is_over, keys}
use Rattle.mdb_snoop.specs.Database.{with_end}
use Rattle.mdb_snoop.specs.Places.{has_some}

abbrev pub mapped : {X : Type 0} → (ℕ → X) → List ℕ → List (ℕ × X)
mapped f ports = map (λ p. (p, f p)) ports

tied : (q p : ℕ) (b : Bool) → (q == p) ≡ b → eq_by_cmp nat_cmp q p ≡ b
tied q p b e = sym (unsigned_ties q p) ∙ e

pub tied_back : (q p : ℕ) (b : Bool) → (q == p) ≡ b → eq_by_cmp nat_cmp p q ≡ b
tied_back q p b e = ap is_eq (nat_cmp_total.antisymm p q) ∙ is_eq-reverse (nat_cmp q p) ∙ tied q p b e

pub get-mapped : {X : Type 0} (f : ℕ → X) (ports : List ℕ) (q : ℕ) → get nat_cmp (mapped f ports) q ≡ cond (has_number ports q) (Some (f q)) None
get-mapped f [] q = refl
get-mapped f (m ∷ ports) q = by (get-mapped f ports q) (q == m) refl
  where
    by : get nat_cmp (mapped f ports) q ≡ cond (has_number ports q) (Some (f q)) None → (b : Bool) → (q == m) ≡ b
        → cond (eq_by_cmp nat_cmp q m) (Some (f m)) (get nat_cmp (mapped f ports) q) ≡ cond ((q == m) || has_number ports q) (Some (f q)) None
    by ih true e = rw (tied q m true e, e) (ap (λ x. Some (f x)) (sym (eqb-true q m e)))
    by ih false e = rw (tied q m false e, e) ih

below-mapped : {X : Type 0} (f : ℕ → X) (t : ℕ → Bool) (x a n : ℕ) → x < a → T (below_all nat_cmp x (mapped f (filter t (range_with_len a n))))
below-mapped f t x a zero less = tt
below-mapped f t x a (suc n) less = by (below-mapped f t x (a + 1) n (omega (arith, less))) (t a)
  where
    by : T (below_all nat_cmp x (mapped f (filter t (range_with_len (a + 1) n)))) → (b : Bool)
        → T (below_all nat_cmp x (mapped f (cond b (a ∷ filter t (range_with_len (a + 1) n)) (filter t (range_with_len (a + 1) n)))))
    by rest true = T_and _ _ (subst (λ r. T (is_lt r)) (nat_cmp_is x a Less less) tt) rest
    by rest false = rest

sorted-range : {X : Type 0} (f : ℕ → X) (t : ℕ → Bool) (a n : ℕ) → T (is_sorted nat_cmp (mapped f (filter t (range_with_len a n))))
sorted-range f t a zero = tt
sorted-range f t a (suc n) = by (sorted-range f t (a + 1) n) (t a)
  where
    by : T (is_sorted nat_cmp (mapped f (filter t (range_with_len (a + 1) n)))) → (b : Bool)
        → T (is_sorted nat_cmp (mapped f (cond b (a ∷ filter t (range_with_len (a + 1) n)) (filter t (range_with_len (a + 1) n)))))
    by rest true = T_and _ _ (below-mapped f t a (a + 1) n (omega arith)) rest
    by rest false = rest

-- a set has no number but those below its bound
within : (ports : List ℕ) (q : ℕ) → IsSetBelow port_places ports → has_number ports q ≡ (has_number ports q && has_number (range_with_len 0 port_places) q)
unfolding numbers_below
within ports q set = ap (λ l. has_number l q) set ∙ has-filter (has_number ports) q (range_with_len 0 port_places)

with-has : (ports : List ℕ) (p q : ℕ) → (q == p) ≡ false → IsSetBelow port_places ports → has_number (numbers_below port_places (λ m. (m == p) || has_number ports m)) q ≡ has_number ports q
unfolding numbers_below
with-has ports p q apart set =
    has-filter (λ m. (m == p) || has_number ports m) q (range_with_len 0 port_places)
    ∙ ap (λ b. (b || has_number ports q) && has_number (range_with_len 0 port_places) q) apart
    ∙ sym (within ports q set)

without-has : (ports : List ℕ) (p q : ℕ) (b : Bool) → (q == p) ≡ b → IsSetBelow port_places ports
    → has_number (numbers_below port_places (λ m. has_number ports m && not (m == p))) q ≡ (not b && has_number ports q)
unfolding numbers_below
without-has ports p q b is set =
    has-filter (λ m. has_number ports m && not (m == p)) q (range_with_len 0 port_places)
    ∙ ap (λ c. (has_number ports q && not c) && has_number (range_with_len 0 port_places) q) is
    ∙ by b
  where
    by : (c : Bool) → ((has_number ports q && not c) && has_number (range_with_len 0 port_places) q) ≡ (not c && has_number ports q)
    by true = ap (λ x. x && has_number (range_with_len 0 port_places) q) (and-false (has_number ports q))
    by false = ap (λ x. x && has_number (range_with_len 0 port_places) q) (and-true (has_number ports q)) ∙ sym (within ports q set)

sorted-set : {X : Type 0} (f : ℕ → X) (t : ℕ → Bool) → T (is_sorted nat_cmp (mapped f (numbers_below port_places t)))
unfolding numbers_below
sorted-set f t = sorted-range f t 0 port_places

pub sorted-mapped : {X : Type 0} (f : ℕ → X) (ports : List ℕ) → IsSetBelow port_places ports → T (is_sorted nat_cmp (mapped f ports))
sorted-mapped f ports set = subst (λ l. T (is_sorted nat_cmp (mapped f l))) (sym set) (sorted-set f (has_number ports))

pub mapped-ascends : {X : Type 0} (f : ℕ → X) (ports : List ℕ) → IsSetBelow port_places ports → is_ascending nat_cmp (mapped f ports) ≡ true
mapped-ascends f ports set = true_from_T _ (sorted-mapped f ports set)

-- one more port, or another value at a port
pub mapped-put : {X : Type 0} (f g : ℕ → X) (ports : List ℕ) (p : ℕ) (x : X) → IsSetBelow port_places ports → p < port_places → g p ≡ x → ((q : ℕ) → (q == p) ≡ false → g q ≡ f q)
    → mapped g (numbers_below port_places (λ m. (m == p) || has_number ports m)) ≡ put nat_cmp (mapped f ports) p x
mapped-put {X} f g ports p x set low at others =
    same_entries nat_cmp nat_cmp_total nat_cmp-IsAntisymmetric (mapped g wide) (put nat_cmp (mapped f ports) p x) (sorted-set g _)
    (is_sorted-put nat_cmp nat_cmp_total p x (mapped f ports) (sorted-mapped f ports set))
    (λ q. get-mapped g wide q ∙ by q (q == p) refl ∙ sym (find-put nat_cmp nat_cmp_total q p x (mapped f ports) ∙ ap (cond (eq_by_cmp nat_cmp q p) (Some x)) (get-mapped f ports q)))
  where
    wide : List ℕ
    wide = numbers_below port_places (λ m. (m == p) || has_number ports m)

    by : (q : ℕ) (b : Bool) → (q == p) ≡ b → cond (has_number wide q) (Some (g q)) None ≡ cond (eq_by_cmp nat_cmp q p) (Some x) (cond (has_number ports q) (Some (f q)) None)
    by q true e =
        let is : q ≡ p = eqb-true q p e in
        let has : has_number wide q ≡ true = has-below (λ m. (m == p) || has_number ports m) port_places q (subst (λ n. n < port_places) (sym is) low) ∙ ap (λ b. b || has_number ports q) e in
        rw (has, tied q p true e) (ap Some (ap g is ∙ at))
    by q false e = rw (with-has ports p q e set, tied q p false e, others q e) refl

-- one port less
pub mapped-without : {X : Type 0} (f g : ℕ → X) (ports : List ℕ) (p : ℕ) → IsSetBelow port_places ports → ((q : ℕ) → (q == p) ≡ false → g q ≡ f q)
    → mapped g (numbers_below port_places (λ m. has_number ports m && not (m == p))) ≡ without nat_cmp (mapped f ports) p
mapped-without {X} f g ports p set others =
    same_entries nat_cmp nat_cmp_total nat_cmp-IsAntisymmetric (mapped g left) (without nat_cmp (mapped f ports) p) (sorted-set g _)
    (is_sorted-where_key nat_cmp apart (mapped f ports) (sorted-mapped f ports set))
    (λ q. get-mapped g left q ∙ by q (q == p) refl ∙ sym (find-where_key nat_cmp apart q (alike q) (mapped f ports) ∙ ap (λ o. cond (apart q) o None) (get-mapped f ports q)))
  where
    apart : ℕ → Bool
    apart q = not (eq_by_cmp nat_cmp p q)

    alike : (q x : ℕ) → nat_cmp q x ≡ Equal → apart x ≡ apart q
    alike q x e = ap apart (sym (nat_cmp-IsAntisymmetric q x e))

    left : List ℕ
    left = numbers_below port_places (λ m. has_number ports m && not (m == p))

    by : (q : ℕ) (b : Bool) → (q == p) ≡ b → cond (has_number left q) (Some (g q)) None ≡ cond (apart q) (cond (has_number ports q) (Some (f q)) None) None
    by q true e = rw (without-has ports p q true e set, tied_back q p true e) refl
    by q false e = rw (without-has ports p q false e set, tied_back q p false e, others q e) refl

-- the ports themselves
pub keys-mapped : {X : Type 0} (f : ℕ → X) (ports : List ℕ) → ports ≡ keys (mapped f ports)
keys-mapped f [] = refl
keys-mapped f (p ∷ ports) = ap (λ l. p ∷ l) (keys-mapped f ports)

-- those that pass
pub keys-filter_mapped : {X : Type 0} (f : ℕ → X) (t : X → Bool) (ports : List ℕ) → filter (λ p. t (f p)) ports ≡ keys (filter (λ x. t x.1) (mapped f ports))
keys-filter_mapped f t [] = refl
keys-filter_mapped f t (p ∷ ports) = by (keys-filter_mapped f t ports) (t (f p))
  where
    by : filter (λ q. t (f q)) ports ≡ keys (filter (λ x. t x.1) (mapped f ports)) → (b : Bool)
        → cond b (p ∷ filter (λ q. t (f q)) ports) (filter (λ q. t (f q)) ports) ≡ keys (cond b ((p, f p) ∷ filter (λ x. t x.1) (mapped f ports)) (filter (λ x. t x.1) (mapped f ports)))
    by ih true = ap (λ l. p ∷ l) ih
    by ih false = ih

filter-both : (s t : ℕ → Bool) (xs : List ℕ) → filter (λ m. s m && t m) xs ≡ filter t (filter s xs)
filter-both s t [] = refl
filter-both s t (x ∷ xs) = by (filter-both s t xs) (s x)
  where
    by : filter (λ m. s m && t m) xs ≡ filter t (filter s xs) → (a : Bool)
        → cond (a && t x) (x ∷ filter (λ m. s m && t m) xs) (filter (λ m. s m && t m) xs) ≡ filter t (cond a (x ∷ filter s xs) (filter s xs))
    by ih true = ap (λ l. cond (t x) (x ∷ l) l) ih
    by ih false = ih

-- the members that pass, as a set
pub set-filter : (t : ℕ → Bool) (ports : List ℕ) → IsSetBelow port_places ports → numbers_below port_places (λ m. has_number ports m && t m) ≡ filter t ports
unfolding numbers_below
set-filter t ports set = filter-both (has_number ports) t (range_with_len 0 port_places) ∙ ap (filter t) (sym set)

-- what stands at a port, of a map that is seen so

pub get-there : {X : Type 0} (f : ℕ → X) (ports : List ℕ) (q : ℕ) (m : List (ℕ × X)) → mapped f ports ≡ m → has_number ports q ≡ true → get nat_cmp m q ≡ Some (f q)
get-there f ports q m view there = ap (λ l. get nat_cmp l q) (sym view) ∙ get-mapped f ports q ∙ ap (λ b. cond b (Some (f q)) None) there

pub get-not : {X : Type 0} (f : ℕ → X) (ports : List ℕ) (q : ℕ) (m : List (ℕ × X)) → mapped f ports ≡ m → has_number ports q ≡ false → get nat_cmp m q ≡ None
get-not f ports q m view there = ap (λ l. get nat_cmp l q) (sym view) ∙ get-mapped f ports q ∙ ap (λ b. cond b (Some (f q)) None) there

pub is_some-mapped : {X : Type 0} (f : ℕ → X) (ports : List ℕ) (q : ℕ) (m : List (ℕ × X)) → mapped f ports ≡ m → has_number ports q ≡ is_some (get nat_cmp m q)
is_some-mapped f ports q m view = by (has_number ports q) ∙ sym (ap (λ l. is_some (get nat_cmp l q)) (sym view) ∙ ap is_some (get-mapped f ports q))
  where
    by : (b : Bool) → b ≡ is_some (cond b (Some (f q)) None)
    by true = refl
    by false = refl

-- a set that is built member by member

-- the members so far, with the next one where it passes
pub next-if : (t : ℕ → Bool) (p : ℕ) (seen due new : List ℕ) → due ≡ numbers_below port_places (λ m. has_number seen m && t m)
    → new ≡ cond (t p) (numbers_below port_places (λ m. (m == p) || has_number due m)) due → new ≡ numbers_below port_places (λ m. has_number (seen ++ p ∷ []) m && t m)
next-if t p seen due new so_far then_is = by (t p) refl then_is
  where
    by : (b : Bool) → t p ≡ b → new ≡ cond b (numbers_below port_places (λ m. (m == p) || has_number due m)) due → new ≡ numbers_below port_places (λ m. has_number (seen ++ p ∷ []) m && t m)
    by true at is = among_with port_places p t seen due new so_far is at
    by false at is = is ∙ among_skip port_places p t seen due so_far at

pub due-is : (f : ℕ → ℕ) (now : ℕ) (ports : List ℕ) (m : List (ℕ × ℕ)) → IsSetBelow port_places ports → mapped f ports ≡ m
    → numbers_below port_places (λ p. has_number ports p && nat_le (f p) now) ≡ due now m
due-is f now ports m set view = set-filter (λ p. nat_le (f p) now) ports set ∙ keys-filter_mapped f (λ x. nat_le x now) ports ∙ ap (λ l. due now l) view

-- one place of the moments is written
pub write-put : (moments written ports : List ℕ) (p x : ℕ) → IsSetBelow port_places ports → p < port_places → length moments ≡ port_places → written ≡ set moments p x
    → mapped (slice_index written) (numbers_below port_places (λ m. (m == p) || has_number ports m)) ≡ put nat_cmp (mapped (slice_index moments) ports) p x
write-put moments written ports p x ascending low size is =
    mapped-put (slice_index moments) (slice_index written) ports p x ascending low
    (ap (λ l. slice_index l p) is ∙ get_or-set_same moments p x 0 (subst (λ n. p < n) (sym size) low))
    (λ q e. ap (λ l. slice_index l q) is ∙ get_or-set_other moments p q x 0 (ne_from_eqb q p e))

-- ends of members

put-some : (ends left : List (ℕ × ℕ)) (ports : List ℕ) (p x : ℕ) → IsSetBelow port_places ports → p < port_places → left ≡ put nat_cmp ends p x
    → mapped (get nat_cmp left) (numbers_below port_places (λ m. (m == p) || has_number ports m)) ≡ put nat_cmp (mapped (get nat_cmp ends) ports) p (Some x)
put-some ends left ports p x ascending low is =
    mapped-put (get nat_cmp ends) (get nat_cmp left) ports p (Some x) ascending low
    (at p ∙ ap (λ r. cond (is_eq r) (Some x) (get nat_cmp ends p)) (tied_itself nat_cmp_total p))
    (λ q e. at q ∙ ap (λ b. cond b (Some x) (get nat_cmp ends q)) (tied q p false e))
  where
    at : (q : ℕ) → get nat_cmp left q ≡ cond (eq_by_cmp nat_cmp q p) (Some x) (get nat_cmp ends q)
    at q = ap (λ l. get nat_cmp l q) is ∙ find-put nat_cmp nat_cmp_total q p x ends

left-at : (ends left : List (ℕ × ℕ)) (p q : ℕ) → left ≡ without nat_cmp ends p → get nat_cmp left q ≡ cond (not (eq_by_cmp nat_cmp p q)) (get nat_cmp ends q) None
left-at ends left p q is =
    ap (λ l. get nat_cmp l q) is
    ∙ find-where_key nat_cmp (λ x. not (eq_by_cmp nat_cmp p x)) q (λ x e. ap (λ y. not (eq_by_cmp nat_cmp p y)) (sym (nat_cmp-IsAntisymmetric q x e))) ends

put-none : (ends left : List (ℕ × ℕ)) (ports : List ℕ) (p : ℕ) → IsSetBelow port_places ports → p < port_places → left ≡ without nat_cmp ends p
    → mapped (get nat_cmp left) (numbers_below port_places (λ m. (m == p) || has_number ports m)) ≡ put nat_cmp (mapped (get nat_cmp ends) ports) p None
put-none ends left ports p ascending low is =
    mapped-put (get nat_cmp ends) (get nat_cmp left) ports p None ascending low
    (left-at ends left p p is ∙ ap (λ r. cond (not (is_eq r)) (get nat_cmp ends p) None) (tied_itself nat_cmp_total p))
    (λ q e. left-at ends left p q is ∙ ap (λ b. cond (not b) (get nat_cmp ends q) None) (tied_back q p false e))

-- with an end or without
pub put-end : (ends left : List (ℕ × ℕ)) (ports : List ℕ) (p : ℕ) (end : Option ℕ) → IsSetBelow port_places ports → p < port_places → left ≡ with_end ends p end
    → mapped (get nat_cmp left) (numbers_below port_places (λ m. (m == p) || has_number ports m)) ≡ put nat_cmp (mapped (get nat_cmp ends) ports) p end
put-end ends left ports p None ascending low is = put-none ends left ports p ascending low is
put-end ends left ports p (Some x) ascending low is = put-some ends left ports p x ascending low is

pub part-none : (ends left : List (ℕ × ℕ)) (ports : List ℕ) (p : ℕ) → IsSetBelow port_places ports → left ≡ without nat_cmp ends p
    → mapped (get nat_cmp left) (numbers_below port_places (λ m. has_number ports m && not (m == p))) ≡ without nat_cmp (mapped (get nat_cmp ends) ports) p
part-none ends left ports p ascending is =
    mapped-without (get nat_cmp ends) (get nat_cmp left) ports p ascending
    (λ q e. left-at ends left p q is ∙ ap (λ b. cond (not b) (get nat_cmp ends q) None) (tied_back q p false e))

-- which ports are due

has_when : (f : ℕ → ℕ) (now : ℕ) (ports : List ℕ) (q : ℕ) → IsSetBelow port_places ports
    → has_number (numbers_below port_places (λ p. has_number ports p && nat_le (f p) now)) q ≡ (has_number ports q && nat_le (f q) now)
unfolding numbers_below
has_when f now ports q ascending =
    has-filter (λ p. has_number ports p && nat_le (f p) now) q (range_with_len 0 port_places)
    ∙ swap (has_number ports q) (nat_le (f q) now) (has_number (range_with_len 0 port_places) q)
    ∙ ap (λ b. b && nat_le (f q) now) (sym (within ports q ascending))
  where
    swap : (a b r : Bool) → ((a && b) && r) ≡ ((a && r) && b)
    swap true true r = sym (and-true r)
    swap true false r = sym (and-false r)
    swap false b r = refl

pub due-has : (f : ℕ → ℕ) (now : ℕ) (ports : List ℕ) (m : List (ℕ × ℕ)) (due : List ℕ) → IsSetBelow port_places ports → mapped f ports ≡ m
    → due ≡ numbers_below port_places (λ p. has_number ports p && nat_le (f p) now)
    → (q : ℕ) → has_number due q ≡ is_over now (get nat_cmp m q)
due-has f now ports m due ascending view is q =
    ap (λ l. has_number l q) is
    ∙ has_when f now ports q ascending
    ∙ by (has_number ports q)
    ∙ sym (ap (λ l. is_over now (get nat_cmp l q)) (sym view) ∙ ap (is_over now) (get-mapped f ports q))
  where
    by : (b : Bool) → (b && nat_le (f q) now) ≡ is_over now (cond b (Some (f q)) None)
    by true = refl
    by false = refl

same-filter : (s t : ℕ → Bool) → ((m : ℕ) → s m ≡ t m) → (xs : List ℕ) → filter s xs ≡ filter t xs
same-filter s t h [] = refl
same-filter s t h (x ∷ xs) = ap (λ b. cond b (x ∷ filter s xs) (filter s xs)) (h x) ∙ ap (λ l. cond (t x) (x ∷ l) l) (same-filter s t h xs)

-- the members that are due
pub both-due : (now : ℕ) (ends : List (ℕ × ℕ)) (ports over : List ℕ) (m : List (ℕ × Option ℕ)) → IsSetBelow port_places ports → mapped (get nat_cmp ends) ports ≡ m
    → ((q : ℕ) → has_number over q ≡ is_over now (get nat_cmp ends q))
    → numbers_below port_places (λ p. has_number ports p && has_number over p) ≡ due_members now m
both-due now ends ports over m ascending view is =
    set-filter (has_number over) ports ascending
    ∙ same-filter (has_number over) (λ q. is_over now (get nat_cmp ends q)) is ports
    ∙ keys-filter_mapped (get nat_cmp ends) (is_over now) ports
    ∙ ap (due_members now) view

first-some : (l : List ℕ) → is_some (slice_get l 0) ≡ has_some l
first-some [] = refl
first-some (x ∷ l) = refl

some-mapped : {X : Type 0} (f : ℕ → X) (l : List ℕ) → has_some l ≡ has_some (mapped f l)
some-mapped f [] = refl
some-mapped f (x ∷ l) = refl

-- whether another one is left
pub other-left : {X : Type 0} (f : ℕ → X) (ports : List ℕ) (p : ℕ) (m : List (ℕ × X)) → IsSetBelow port_places ports → mapped f ports ≡ m
    → is_some (slice_get (numbers_below port_places (λ q. has_number ports q && not (q == p))) 0) ≡ has_some (without nat_cmp m p)
other-left f ports p m ascending view =
    first-some _
    ∙ some-mapped f _
    ∙ ap has_some (mapped-without f f ports p ascending (λ q e. refl))
    ∙ ap (λ l. has_some (without nat_cmp l p)) view
