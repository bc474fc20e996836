-- No learned entry is earlier than the least moment of the learned ones.
use Rattle.std.proofs.Common.{◌≡◌, ℕ, ◌+◌, ◌≤◌, min, Bool, true, false, not, cond, ◌||◌, Option, None, Some, List, [], ◌∷◌, nat_le, refl, sym, ap, subst, ◌∙◌, arith}
use Rattle.std.specs.Ordering.{eq_by_cmp, nat_cmp}
use Rattle.std.specs.Cmp.{first_so, second_so}
use Rattle.std.specs.FinMap.Entries.{find, is_sorted}
use Rattle.std.proofs.lemmas.Bool.{le-leb, eqb-true, eq-eqb, and_from}
use Rattle.lemmas.proofs.Tests.{by_test}
use Rattle.open_addressing.specs.Least.{smaller, least}
use Rattle.fdb_core.specs.declared.entries.Entry.{Entry}
use Rattle.br_model.specs.Control.Learning.{is_learned}
use Rattle.fdb_core.specs.Fdb.{learned_moment, oldest, all_from}
use Rattle.fdb_core.specs.Places.{Place, was_learned, is_current, Tells, is_settled, first_moment}
use Rattle.fdb_core.proofs.ByAddress.{Key}
use Rattle.fdb_core.proofs.Lookups.{find_past, find_here}
use Rattle.fdb_core.proofs.Places.{first-least}

abbrev Bounds : ℕ → Option ℕ → Type 0
Bounds b o = (m : ℕ) → o ≡ Some m → b ≤ m

bounds-first : (b a : ℕ) (o : Option ℕ) → Bounds b (smaller (Some a) o) → b ≤ a
bounds-first b a None h = h a refl
bounds-first b a (Some m) h = let k = h (min a m) refl in omega arith

bounds-rest : (b : ℕ) (x o : Option ℕ) → Bounds b (smaller x o) → Bounds b o
bounds-rest b None o h = h
bounds-rest b (Some a) None h = λ m e. absurd (cc)
bounds-rest b (Some a) (Some m) h = λ n e. (let k = h (min a m) refl in let s : m ≡ n = cc in omega arith)

bounds-test : (b : ℕ) (l : Bool) (u : ℕ) (o : Option ℕ) → Bounds b (smaller (cond l (Some u) None) o) → (not l || nat_le b u) ≡ true
bounds-test b true u o h = le-leb b u (bounds-first b u o h)
bounds-test b false u o h = refl

pub bounds-all : (b : ℕ) (es : List (Key × Entry)) → Bounds b (oldest es) → all_from b es ≡ true
bounds-all b [] h = refl
bounds-all b (e ∷ es) h =
    and_from _ _ (bounds-test b (is_learned e.1.kind) e.1.updated (oldest es) h) (bounds-all b es (bounds-rest b (learned_moment e.1) (oldest es) h))

-- the least moment is that of the first place

bounds-of : (b : ℕ) (x o : Option ℕ) → Bounds b x → Bounds b o → Bounds b (smaller x o)
bounds-of b None o f g = g
bounds-of b (Some a) None f g = f
bounds-of b (Some a) (Some n) f g = λ m e. (let x = f a refl in let y = g n refl in let s : min a n ≡ m = cc in omega arith)

-- a look-up in the rest finds the same among all, where they are in order
rest-current : (p : Place) (e : ℕ × Entry) (es : List (ℕ × Entry)) → is_sorted nat_cmp (e ∷ es) ≡ true → is_current es p ≡ true → is_current (e ∷ es) p ≡ true
rest-current p e es sorted h =
    by_test (eq_by_cmp nat_cmp p.1 e.0)
    (λ so. (let none : is_current es p ≡ false = ap (was_learned p.0) (find_past p.1 e es sorted so) in absurd (cc)))
    (λ not_so. ap (λ b. was_learned p.0 (cond b (Some e.1) (find nat_cmp p.1 es))) not_so ∙ h)

first-current : (e : ℕ × Entry) (es : List (ℕ × Entry)) → is_learned e.1.kind ≡ true → is_current (e ∷ es) (e.1.updated, e.0) ≡ true
first-current e es h = ap (was_learned e.1.updated) (find_here e es) ∙ and_from _ _ h (eq-eqb e.1.updated e.1.updated refl)

bounds-learned : (b : ℕ) (l : Bool) (u : ℕ) → (l ≡ true → b ≤ u) → Bounds b (cond l (Some u) None)
bounds-learned b true u h = λ m e. (let le = h refl in let s : u ≡ m = cc in omega arith)
bounds-learned b false u h = λ m e. absurd (cc)

bounds-least : (b : ℕ) (es : List (ℕ × Entry)) → is_sorted nat_cmp es ≡ true → ((p : Place) → is_current es p ≡ true → b ≤ p.0) → Bounds b (least learned_moment es)
bounds-least b [] sorted h = λ m e. absurd (cc)
bounds-least b (e ∷ es) sorted h =
    bounds-of b (learned_moment e.1) (least learned_moment es)
    (bounds-learned b (is_learned e.1.kind) e.1.updated (λ l. h (e.1.updated, e.0) (first-current e es l)))
    (bounds-least b es (second_so _ _ sorted) (λ p c. h p (rest-current p e es sorted c)))

-- an entry's moment is not_so less than the least

abbrev Reaches : ℕ → Option ℕ → Type 0
Reaches m o = (n : ℕ) × (o ≡ Some n) × (n ≤ m)

reaches-first : (m : ℕ) (o : Option ℕ) → Reaches m (smaller (Some m) o)
reaches-first m None = (m, refl, omega arith)
reaches-first m (Some n) = (min m n, refl, omega arith)

reaches-rest : (m : ℕ) (x o : Option ℕ) → Reaches m o → Reaches m (smaller x o)
reaches-rest m None o r = r
reaches-rest m (Some a) o r = (min a r.0, ap (smaller (Some a)) r.1, (let le = r.2 in omega arith))

reaches-least : (m k : ℕ) (es : List (ℕ × Entry)) → is_current es (m, k) ≡ true → Reaches m (least learned_moment es)
reaches-least m k [] h = absurd (cc)
reaches-least m k (e ∷ es) h =
    elim (eq_by_cmp nat_cmp k e.0) as (λ b. was_learned m (cond b (Some e.1) (find nat_cmp k es)) ≡ true → Reaches m (least learned_moment (e ∷ es))) [
      | true ↦ λ g.
          let u : Some m ≡ learned_moment e.1 = sym (ap (λ b. cond b (Some e.1.updated) None) (first_so _ _ g) ∙ ap (λ n. Some n) (eqb-true e.1.updated m (second_so _ _ g))) in
          subst (λ (x : Option ℕ). Reaches m (smaller x (least learned_moment es))) u (reaches-first m (least learned_moment es))
      | false ↦ λ g. reaches-rest m (learned_moment e.1) (least learned_moment es) (reaches-least m k es g)
    ] h

exact : (m : ℕ) (o : Option ℕ) → Reaches m o → Bounds m o → o ≡ Some m
exact m o r h = (let low = h r.0 r.1 in let le = r.2 in let e : r.0 ≡ m = omega arith in r.1 ∙ ap (λ n. Some n) e)

nothing : (o : Option ℕ) → ((b : ℕ) → Bounds b o) → o ≡ None
nothing None h = refl
nothing (Some n) h = (let le = h (n + 1) n refl in absurd (omega arith))

pub first-oldest : (latest : ℕ) (ps : List Place) (es : List (ℕ × Entry)) → is_sorted nat_cmp es ≡ true → Tells latest ps es → is_settled es ps ≡ true → first_moment ps ≡ least learned_moment es
first-oldest latest [] es sorted t settled =
    sym (nothing (least learned_moment es) (λ b. bounds-least b es sorted (λ p c. (let not_so = t.known p c in absurd (cc)))))
first-oldest latest (f ∷ ps) es sorted t settled =
    sym (exact f.0 (least learned_moment es) (reaches-least f.0 f.1 es settled) (bounds-least f.0 es sorted (λ p c. first-least f p ps t.ordered (t.known p c))))
