-- Places of entries, through each change of them; and which entries are over.
use Rattle.std.proofs.Common.{◌≡◌, ℕ, ◌+◌, ◌≤◌, Bool, true, false, cond, not, Option, None, Some, List, [], ◌∷◌, ◌++◌, nat_le, filter, refl, sym, ap, subst, ◌∙◌, arith}
use Rattle.std.specs.List.{list_all, list_any}
use Rattle.std.specs.Ordering.{eq_by_cmp, nat_cmp}
use Rattle.std.specs.Cmp.{first_so, second_so}
use Rattle.std.specs.FinMap.Entries.{find, put, where_key, find-put}
use Rattle.std.proofs.lemmas.Bool.{eqb-true, eq-eqb, leb-true, le-leb, and_from, or_left, or_right}
use Rattle.std.proofs.lemmas.Cmp.{nat_cmp_total}
use Rattle.lemmas.proofs.Orders.{eq_by_cmp-true, eq_by_cmp-itself}
use Rattle.lemmas.proofs.Tests.{contradicts, by_test}
use Rattle.fdb_core.specs.declared.entries.Entry.{Entry}
use Rattle.fdb_core.specs.Fdb.{is_expired, learned_at, learned_moment}
use Rattle.fdb_core.specs.Places.{Place, was_learned, is_current, is_same, in_order, Tells, IsTold, over, if_new, news_of}
use Rattle.fdb_core.proofs.Lookups.{in_either, same_answer, find_without}
use Rattle.fdb_core.proofs.Numbers.{is_among, passes}

same_place : (p q : Place) → is_same p q ≡ true → q ≡ p
same_place p q h = λ i. (eqb-true q.0 p.0 (first_so _ _ h) i, eqb-true q.1 p.1 (second_so _ _ h) i)

same_self : (p q : Place) → q.0 ≡ p.0 → q.1 ≡ p.1 → is_same p q ≡ true
same_self p q a b = and_from _ _ (eq-eqb q.0 p.0 a) (eq-eqb q.1 p.1 b)

-- places that are left out

all-left : (q p : Place → Bool) (ps : List Place) → list_all p ps ≡ true → list_all p (filter q ps) ≡ true
all-left q p [] h = refl
all-left q p (x ∷ xs) h =
    let rest = all-left q p xs (second_so _ _ h) in
    elim (q x) as (λ b. list_all p (cond b (x ∷ filter q xs) (filter q xs)) ≡ true) [
      | true ↦ and_from _ _ (first_so _ _ h) rest
      | false ↦ rest
    ]

order-left : (q : Place → Bool) (ps : List Place) → in_order ps ≡ true → in_order (filter q ps) ≡ true
order-left q [] h = refl
order-left q (x ∷ xs) h =
    let rest = order-left q xs (second_so _ _ h) in
    elim (q x) as (λ b. in_order (cond b (x ∷ filter q xs) (filter q xs)) ≡ true) [
      | true ↦ and_from _ _ (all-left q (λ y. nat_le x.0 y.0) xs (first_so _ _ h)) rest
      | false ↦ rest
    ]

any-left : (q : Place → Bool) (p : Place) (ps : List Place) → q p ≡ true → list_any (is_same p) ps ≡ true → list_any (is_same p) (filter q ps) ≡ true
any-left q p [] so h = h
any-left q p (x ∷ xs) so h =
    elim (q x) as (λ b. q x ≡ b → list_any (is_same p) (cond b (x ∷ filter q xs) (filter q xs)) ≡ true) [
      | true ↦ λ _. in_either _ _ h (λ s. or_left _ _ s) (λ r. or_right _ _ (any-left q p xs so r))
      | false ↦ λ not_so. in_either _ _ h (λ s. contradicts (q x) (ap q (same_place p x s) ∙ so) not_so) (λ r. any-left q p xs so r)
    ] refl

pub tells-left : (latest : ℕ) (ps : List Place) (es : List (ℕ × Entry)) → Tells latest ps es → Tells latest (filter (is_current es) ps) es
tells-left latest ps es t = record {
  ordered = order-left (is_current es) ps t.ordered;
  past = all-left (is_current es) (λ p. nat_le p.0 latest) ps t.past;
  known = λ p h. any-left (is_current es) p ps h (t.known p h);
}

pub tells-rest : (latest : ℕ) (f : Place) (ps : List Place) (es : List (ℕ × Entry)) → is_current es f ≡ false → Tells latest (f ∷ ps) es → Tells latest ps es
tells-rest latest f ps es not_so t = record {
  ordered = second_so _ _ t.ordered;
  past = second_so _ _ t.past;
  known = λ p h. in_either _ _ (t.known p h) (λ s. contradicts (is_current es f) (ap (is_current es) (same_place p f s) ∙ h) not_so) (λ r. r);
}

-- one more place

all-more : (p : Place → Bool) (ps : List Place) (x : Place) → list_all p ps ≡ true → p x ≡ true → list_all p (ps ++ x ∷ []) ≡ true
all-more p [] x h here = and_from _ _ here refl
all-more p (y ∷ ys) x h here = and_from _ _ (first_so _ _ h) (all-more p ys x (second_so _ _ h) here)

le-trans : (a b c : ℕ) → nat_le a b ≡ true → nat_le b c ≡ true → nat_le a c ≡ true
le-trans a b c f g = (let x = leb-true a b f in let y = leb-true b c g in le-leb a c (omega arith))

order-more : (latest : ℕ) (ps : List Place) (x : Place) → list_all (λ p. nat_le p.0 latest) ps ≡ true → nat_le latest x.0 ≡ true → in_order ps ≡ true → in_order (ps ++ x ∷ []) ≡ true
order-more latest [] x past later h = refl
order-more latest (y ∷ ys) x past later h =
    and_from _ _ (all-more (λ q. nat_le y.0 q.0) ys x (first_so _ _ h) (le-trans y.0 latest x.0 (first_so _ _ past) later)) (order-more latest ys x (second_so _ _ past) later (second_so _ _ h))

all-later : (a b : ℕ) (ps : List Place) → nat_le a b ≡ true → list_all (λ p. nat_le p.0 a) ps ≡ true → list_all (λ p. nat_le p.0 b) ps ≡ true
all-later a b [] le h = refl
all-later a b (y ∷ ys) le h = and_from _ _ (le-trans y.0 a b (first_so _ _ h) le) (all-later a b ys le (second_so _ _ h))

any-old : (r : Place → Bool) (ps : List Place) (x : Place) → list_any r ps ≡ true → list_any r (ps ++ x ∷ []) ≡ true
any-old r [] x h = absurd (cc)
any-old r (y ∷ ys) x h = in_either _ _ h (λ s. or_left _ _ s) (λ s. or_right _ _ (any-old r ys x s))

any-new : (r : Place → Bool) (ps : List Place) (x : Place) → r x ≡ true → list_any r (ps ++ x ∷ []) ≡ true
any-new r [] x h = or_left _ _ h
any-new r (y ∷ ys) x h = or_right _ _ (any-new r ys x h)

-- an entry is put

moment_of : (x : Entry) (m : ℕ) → learned_at m x ≡ true → learned_moment x ≡ Some m
moment_of x m h =
    let u : x.updated ≡ m = eqb-true x.updated m (second_so _ _ h) in
    ap (λ b. cond b (Some x.updated) None) (first_so _ _ h) ∙ ap (λ n. Some n) u

news_some : (old o : Option Entry) (l : Option ℕ) (m : ℕ) → if_new old l ≡ Some m → l ≡ Some m
news_some old o None m h = h
news_some old o (Some n) m h =
    elim (was_learned n old) as (λ b. cond b None (Some n) ≡ Some m → Some n ≡ Some m) [
      | true ↦ λ e. absurd (cc)
      | false ↦ λ e. e
    ] h

news_none : (old : Option Entry) (m : ℕ) → if_new old (Some m) ≡ None → was_learned m old ≡ true
news_none old m h =
    elim (was_learned m old) as (λ b. cond b None (Some m) ≡ None → b ≡ true) [
      | true ↦ λ e. refl
      | false ↦ λ e. absurd (cc)
    ] h

module _ (es : List (ℕ × Entry)) (k : ℕ) (x : Entry) where
  put-here : (p : Place) → eq_by_cmp nat_cmp p.1 k ≡ true → is_current (put nat_cmp k x es) p ≡ learned_at p.0 x
  put-here p so = ap (was_learned p.0) (find-put nat_cmp nat_cmp_total p.1 k x es) ∙ ap (λ b. was_learned p.0 (cond b (Some x) (find nat_cmp p.1 es))) so

  put-there : (p : Place) → eq_by_cmp nat_cmp p.1 k ≡ false → is_current (put nat_cmp k x es) p ≡ is_current es p
  put-there p not_so = ap (was_learned p.0) (find-put nat_cmp nat_cmp_total p.1 k x es) ∙ ap (λ b. was_learned p.0 (cond b (Some x) (find nat_cmp p.1 es))) not_so

  pub tells-noted : (latest m : ℕ) (ps : List Place) → news_of (find nat_cmp k es) x ≡ Some m → nat_le latest m ≡ true → Tells latest ps es → Tells m (ps ++ (m, k) ∷ []) (put nat_cmp k x es)
  tells-noted latest m ps is later t = record {
    ordered = order-more latest ps (m, k) t.past later t.ordered;
    past = all-more (λ p. nat_le p.0 m) ps (m, k) (all-later latest m ps later t.past) (le-leb m m (omega arith));
    known = λ p h. by_test (eq_by_cmp nat_cmp p.1 k)
        (λ so.
        let l : learned_moment x ≡ Some m = news_some (find nat_cmp k es) None (learned_moment x) m is in
        let here : learned_moment x ≡ Some p.0 = moment_of x p.0 (sym (put-here p so) ∙ h) in
        let e : m ≡ p.0 = cc in
        any-new (is_same p) ps (m, k) (same_self p (m, k) e (sym (eq_by_cmp-true p.1 k so))))
        (λ not_so. any-old (is_same p) ps (m, k) (t.known p (sym (put-there p not_so) ∙ h)));
  }

  pub tells-put : (latest : ℕ) (ps : List Place) → news_of (find nat_cmp k es) x ≡ None → Tells latest ps es → Tells latest ps (put nat_cmp k x es)
  tells-put latest ps is t = record {
    ordered = t.ordered;
    past = t.past;
    known = λ p h. by_test (eq_by_cmp nat_cmp p.1 k)
        (λ so.
        let here : learned_moment x ≡ Some p.0 = moment_of x p.0 (sym (put-here p so) ∙ h) in
        let before : was_learned p.0 (find nat_cmp k es) ≡ true = news_none (find nat_cmp k es) p.0 (ap (if_new (find nat_cmp k es)) (sym here) ∙ is) in
        t.known p (ap (λ q. was_learned p.0 (find nat_cmp q es)) (eq_by_cmp-true p.1 k so) ∙ before))
        (λ not_so. t.known p (sym (put-there p not_so) ∙ h));
  }

-- an entry is taken out
pub tells-without : (k latest : ℕ) (ps : List Place) (es : List (ℕ × Entry)) → Tells latest ps es → Tells latest ps (where_key nat_cmp (λ q. not (eq_by_cmp nat_cmp k q)) es)
tells-without k latest ps es t = record {
  ordered = t.ordered;
  past = t.past;
  known = λ p h. t.known p
      (elim (eq_by_cmp nat_cmp k p.1) as (λ b. was_learned p.0 (cond (not b) (find nat_cmp p.1 es) None) ≡ true → is_current es p ≡ true) [
        | true ↦ λ e. absurd (cc)
        | false ↦ λ e. e
      ] (sym (ap (was_learned p.0) (find_without k p.1 es)) ∙ h));
}

-- not_so place is before the first

least-first : (m : ℕ) (p : Place) (ps : List Place) → list_all (λ q. nat_le m q.0) ps ≡ true → list_any (is_same p) ps ≡ true → nat_le m p.0 ≡ true
least-first m p [] all any = absurd (cc)
least-first m p (x ∷ xs) all any =
    in_either _ _ any (λ s. ap (λ (q : Place). nat_le m q.0) (sym (same_place p x s)) ∙ first_so _ _ all) (λ r. least-first m p xs (second_so _ _ all) r)

pub first-least : (f p : Place) (ps : List Place) → in_order (f ∷ ps) ≡ true → list_any (is_same p) (f ∷ ps) ≡ true → f.0 ≤ p.0
first-least f p ps ordered any =
    leb-true f.0 p.0 (least-first f.0 p (f ∷ ps) (and_from _ _ (le-leb f.0 f.0 (omega arith)) (first_so _ _ ordered)) any)

-- what is over

module _ (es : List (ℕ × Entry)) (hold now : ℕ) where
  over_of : (o : Option Entry) (m : ℕ) → was_learned m o ≡ true → nat_le (m + hold) now ≡ true → passes (is_expired now hold) o ≡ true
  over_of None m h end = h
  over_of (Some e) m h end = and_from _ _ (first_so _ _ h) (ap (λ u. nat_le (u + hold) now) (eqb-true e.updated m (second_so _ _ h)) ∙ end)

  over_sound : (q : ℕ) (ps : List Place) → is_among q (over es now hold ps) ≡ true → passes (is_expired now hold) (find nat_cmp q es) ≡ true
  over_sound q [] h = absurd (cc)
  over_sound q (p ∷ ps) h =
      elim (nat_le (p.0 + hold) now) as (λ b. nat_le (p.0 + hold) now ≡ b → is_among q (cond b (cond (is_current es p) (p.1 ∷ over es now hold ps) (over es now hold ps)) []) ≡ true
      → passes (is_expired now hold) (find nat_cmp q es) ≡ true) [
        | true ↦
            λ end. elim (is_current es p) as (λ b. is_current es p ≡ b → is_among q (cond b (p.1 ∷ over es now hold ps) (over es now hold ps)) ≡ true
            → passes (is_expired now hold) (find nat_cmp q es) ≡ true) [
              | true ↦
                  λ cur g. in_either _ _ g (λ same. ap (λ x. passes (is_expired now hold) (find nat_cmp x es)) (eq_by_cmp-true q p.1 same) ∙ over_of (find nat_cmp p.1 es) p.0 cur end)
                  (λ r. over_sound q ps r)
              | false ↦ λ cur g. over_sound q ps g
            ] refl
        | false ↦ λ end g. absurd (cc)
      ] refl h

  over_whole : (p : Place) (ps : List Place) → in_order ps ≡ true → list_any (is_same p) ps ≡ true → is_current es p ≡ true → nat_le (p.0 + hold) now ≡ true → is_among p.1 (over es now hold ps) ≡ true
  over_whole p [] ordered any cur end = absurd (cc)
  over_whole p (f ∷ fs) ordered any cur end =
      let le = first-least f p fs ordered any in
      let late = leb-true (p.0 + hold) now end in
      let first_end : nat_le (f.0 + hold) now ≡ true = le-leb (f.0 + hold) now (omega arith) in
      ap (λ b. is_among p.1 (cond b (cond (is_current es f) (f.1 ∷ over es now hold fs) (over es now hold fs)) [])) first_end
      ∙ in_either _ _ any
      (λ s.
      let e : f ≡ p = same_place p f s in
      ap (λ b. is_among p.1 (cond b (f.1 ∷ over es now hold fs) (over es now hold fs))) (ap (is_current es) e ∙ cur)
      ∙ or_left _ _ (ap (λ (q : Place). eq_by_cmp nat_cmp p.1 q.1) e ∙ eq_by_cmp-itself p.1))
      (λ r.
      let rest = over_whole p fs (second_so _ _ ordered) r cur end in
      elim (is_current es f) as (λ b. is_among p.1 (cond b (f.1 ∷ over es now hold fs) (over es now hold fs)) ≡ true) [
        | true ↦ or_right _ _ rest
        | false ↦ rest
      ])

  found_over : (latest q : ℕ) (ps : List Place) (o : Option Entry) → find nat_cmp q es ≡ o → Tells latest ps es → passes (is_expired now hold) o ≡ true → is_among q (over es now hold ps) ≡ true
  found_over latest q ps None is t h = absurd (cc)
  found_over latest q ps (Some e) is t h =
      let cur : is_current es (e.updated, q) ≡ true = ap (was_learned e.updated) is ∙ and_from _ _ (first_so _ _ h) (eq-eqb e.updated e.updated refl) in
      over_whole (e.updated, q) ps t.ordered (t.known (e.updated, q) cur) cur (second_so _ _ h)

  pub over_is : (latest q : ℕ) (ps : List Place) → Tells latest ps es → is_among q (over es now hold ps) ≡ passes (is_expired now hold) (find nat_cmp q es)
  over_is latest q ps t = same_answer _ _ (over_sound q ps) (found_over latest q ps (find nat_cmp q es) refl t)

-- a note of what is new
pub told-noted : (complete : Bool) (latest m k : ℕ) (ps qs : List Place) (es : List (ℕ × Entry)) (x : Entry) → Some m ≡ news_of (find nat_cmp k es) x → latest ≤ m → qs ≡ ps ++ (m, k) ∷ []
    → IsTold complete latest ps es → IsTold complete m qs (put nat_cmp k x es)
told-noted complete latest m k ps qs es x is later more told = λ so.
    subst (λ (l : List Place). Tells m l (put nat_cmp k x es)) (sym more) (tells-noted es k x latest m ps (sym is) (le-leb latest m later) (told so))

pub none_of : (o : Option ℕ) → ((m : ℕ) → o ≡ Some m → ⊥) → o ≡ None
none_of None h = refl
none_of (Some m) h = absurd (h m refl)
