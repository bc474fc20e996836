-- A set that a loop builds by `with`: over the numbers 0, 1, .., or over the members of another set.
use Rattle.std.proofs.Common.{◌≡◌, ℕ, ◌+◌, ◌<◌, ◌≤◌, Bool, true, false, ◌&&◌, ◌||◌, List, [], ◌∷◌, ◌++◌, Option, None, refl, sym, ap, ◌∙◌, arith}
use Rattle.std.specs.Prelude.{◌==◌, nat_lt}
use Rattle.std.specs.List.{filter}
use Rattle.std.specs.Iterator.{Yields, YieldsFirst}
use Rattle.std.proofs.lemmas.Iterator.Consumers.{YieldsList-end, YieldsList-from_first}
use Rattle.std.proofs.lemmas.Bool.{lt-ltb, le-ltb, eqb-true}
use Rattle.std.proofs.lemmas.List.{map-id}
use Rattle.std.proofs.lemmas.List.Folds.{list_any-append}
use Rattle.lemmas.proofs.Numbers.{ltb-next}
use Rattle.port_sets.specs.Numbers.{numbers_below, has_number, IsSetBelow}
use Rattle.port_sets.proofs.Numbers.{has-below, same_below, none_below, filter-set}

-- one call of `with`
pub with_more : (most n : ℕ) (p q : ℕ → Bool) (old new : List ℕ) → old ≡ numbers_below most p → new ≡ numbers_below most (λ m. (m == n) || has_number old m)
    → ((m : ℕ) → m < most → ((m == n) || p m) ≡ q m) → new ≡ numbers_below most q
with_more most n p q old new e made h =
    made ∙ same_below _ _ most (λ m low. ap (λ b. (m == n) || b) (ap (λ (ns : List ℕ). has_number ns m) e ∙ has-below p most m low) ∙ h m low)

-- ---- `for n in 0..most`, where n is added if f passes it: `set ≡ numbers_below most (λ m. nat_lt m n && f m)`

pub upto_none : (most : ℕ) (f : ℕ → Bool) → [] ≡ numbers_below most (λ m. nat_lt m 0 && f m)
upto_none most f = sym (none_below _ most (λ m low. ap (λ b. b && f m) (le-ltb m 0 (omega arith))))

step_with : (same low f : Bool) → (same ≡ true → f ≡ true) → (same || (low && f)) ≡ ((same || low) && f)
step_with true low f h = sym (h refl)
step_with false low f h = refl

step_skip : (same low f : Bool) → (same ≡ true → f ≡ false) → (low && f) ≡ ((same || low) && f)
step_skip true true f h = refl
step_skip true false f h = sym (h refl)
step_skip false low f h = refl

pub upto_with : (most n : ℕ) (f : ℕ → Bool) (old new : List ℕ) → old ≡ numbers_below most (λ m. nat_lt m n && f m) → new ≡ numbers_below most (λ m. (m == n) || has_number old m) → f n ≡ true
    → new ≡ numbers_below most (λ m. nat_lt m (n + 1) && f m)
upto_with most n f old new e made is =
    with_more most n _ _ old new e made (λ m low.
    step_with (m == n) (nat_lt m n) (f m) (λ same. ap f (eqb-true m n same) ∙ is) ∙ ap (λ b. b && f m) (sym (ltb-next n m)))

pub upto_skip : (most n : ℕ) (f : ℕ → Bool) (old : List ℕ) → old ≡ numbers_below most (λ m. nat_lt m n && f m) → f n ≡ false → old ≡ numbers_below most (λ m. nat_lt m (n + 1) && f m)
upto_skip most n f old e not_it =
    e ∙ same_below _ _ most (λ m low.
    step_skip (m == n) (nat_lt m n) (f m) (λ same. ap f (eqb-true m n same) ∙ not_it) ∙ ap (λ b. b && f m) (sym (ltb-next n m)))

pub upto_all : (most n : ℕ) (f : ℕ → Bool) (old : List ℕ) → old ≡ numbers_below most (λ m. nat_lt m n && f m) → most ≤ n → old ≡ numbers_below most f
upto_all most n f old e end = e ∙ same_below _ _ most (λ m low. ap (λ b. b && f m) (lt-ltb m n (omega arith)))

-- ---- `for n in from.iter()`, where n is added if f passes it: `set ≡ numbers_below most (λ m. has_number yielded m && f m)`

pub among_none : (most : ℕ) (f : ℕ → Bool) → [] ≡ numbers_below most (λ m. has_number [] m && f m)
among_none most f = sym (none_below _ most (λ m low. refl))

next_has : (n m : ℕ) (seen : List ℕ) → has_number (seen ++ n ∷ []) m ≡ ((m == n) || has_number seen m)
next_has n m seen = list_any-append (λ k. m == k) seen (n ∷ []) ∙ turn (has_number seen m) (m == n)
  where
    turn : (b c : Bool) → (b || (c || false)) ≡ (c || b)
    turn true true = refl
    turn true false = refl
    turn false true = refl
    turn false false = refl

pub among_with : (most n : ℕ) (f : ℕ → Bool) (seen old new : List ℕ) → old ≡ numbers_below most (λ m. has_number seen m && f m) → new ≡ numbers_below most (λ m. (m == n) || has_number old m)
    → f n ≡ true
    → new ≡ numbers_below most (λ m. has_number (seen ++ n ∷ []) m && f m)
among_with most n f seen old new e made is =
    with_more most n _ _ old new e made (λ m low.
    step_with (m == n) (has_number seen m) (f m) (λ same. ap f (eqb-true m n same) ∙ is) ∙ ap (λ b. b && f m) (sym (next_has n m seen)))

pub among_skip : (most n : ℕ) (f : ℕ → Bool) (seen old : List ℕ) → old ≡ numbers_below most (λ m. has_number seen m && f m) → f n ≡ false
    → old ≡ numbers_below most (λ m. has_number (seen ++ n ∷ []) m && f m)
among_skip most n f seen old e not_it =
    e ∙ same_below _ _ most (λ m low.
    step_skip (m == n) (has_number seen m) (f m) (λ same. ap f (eqb-true m n same) ∙ not_it) ∙ ap (λ b. b && f m) (sym (next_has n m seen)))

pub among_all : (most : ℕ) (f : ℕ → Bool) (from seen old : List ℕ) → IsSetBelow most from → old ≡ numbers_below most (λ m. has_number seen m && f m) → seen ≡ from → old ≡ filter f from
among_all most f from seen old h e all = e ∙ ap (λ (ns : List ℕ). numbers_below most (λ m. has_number ns m && f m)) all ∙ sym (filter-set most from f h)

-- at its end the loop has seen each member
pub yielded_members : (from s t u seen : List ℕ) (r : Option ℕ) → s ≡ from → Yields (YieldsFirst (λ (x : List ℕ). x)) s seen t → r ≡ None → YieldsFirst (λ (x : List ℕ). x) t r u → seen ≡ from
yielded_members from s t u seen r e run ends last =
    sym (map-id seen) ∙ (YieldsList-end (YieldsList-from_first (λ x. x) (λ (x : List ℕ). x) from e) seen t run r u ends last).0
