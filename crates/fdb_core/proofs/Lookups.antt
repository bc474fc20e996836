-- Small facts on answers, and on look-ups of entries in order.
use Rattle.std.proofs.Common.{◌≡◌, ℕ, Bool, true, false, cond, not, ◌||◌, None, Some, List, [], ◌∷◌, refl, sym, ap, ◌∙◌}
use Rattle.std.specs.Ordering.{is_eq, is_lt, eq_by_cmp, nat_cmp}
use Rattle.std.specs.declared.cmp.Ordering.{Ordering}
use Rattle.std.specs.declared.cmp.Ordering.TheVariants.{Less, Equal, Greater}
use Rattle.std.specs.Cmp.{first_so, second_so}
use Rattle.std.proofs.lemmas.Cmp.{nat_cmp_total}
use Rattle.std.proofs.lemmas.Map.Lookups.{exact_unsigned}
use Rattle.std.specs.FinMap.Entries.{find, below_all, is_sorted, where_key, find-where_key}
use Rattle.std.proofs.lemmas.Bool.{and_from}
use Rattle.lemmas.proofs.Orders.{eq_by_cmp-true, eq_by_cmp-itself, is_lt-true}

pub in_either : {C : Type 0} (a b : Bool) → (a || b) ≡ true → (a ≡ true → C) → (b ≡ true → C) → C
in_either true b h f g = f refl
in_either false b h f g = g h

pub same_answer : (a b : Bool) → (a ≡ true → b ≡ true) → (b ≡ true → a ≡ true) → a ≡ b
same_answer true b f g = sym (f refl)
same_answer false true f g = g refl
same_answer false false f g = refl

-- keys that tie are equal

below_apart : (r : Ordering) → is_lt r ≡ true → is_eq r ≡ false
below_apart Less e = refl
below_apart Equal e = absurd (cc)
below_apart Greater e = absurd (cc)

module _ {V : Type 0} where
  -- what stands above a key isn't at it
  pub find_above : (q : ℕ) (es : List (ℕ × V)) → below_all nat_cmp q es ≡ true → find nat_cmp q es ≡ None
  find_above q [] h = refl
  find_above q (e ∷ es) h = ap (λ b. cond b (Some e.1) (find nat_cmp q es)) (below_apart _ (first_so _ _ h)) ∙ find_above q es (second_so _ _ h)

  -- in the rest of entries in order the first key isn't
  pub find_past : (q : ℕ) (e : ℕ × V) (es : List (ℕ × V)) → is_sorted nat_cmp (e ∷ es) ≡ true → eq_by_cmp nat_cmp q e.0 ≡ true → find nat_cmp q es ≡ None
  find_past q e es sorted same = ap (λ x. find nat_cmp x es) (eq_by_cmp-true q e.0 same) ∙ find_above e.0 es (first_so _ _ sorted)

  pub find_here : (e : ℕ × V) (es : List (ℕ × V)) → find nat_cmp e.0 (e ∷ es) ≡ Some e.1
  find_here e es = ap (λ b. cond b (Some e.1) (find nat_cmp e.0 es)) (eq_by_cmp-itself e.0)

  pub find_without : (k q : ℕ) (es : List (ℕ × V)) → find nat_cmp q (where_key nat_cmp (λ x. not (eq_by_cmp nat_cmp k x)) es) ≡ cond (not (eq_by_cmp nat_cmp k q)) (find nat_cmp q es) None
  find_without k q es = find-where_key nat_cmp (λ x. not (eq_by_cmp nat_cmp k x)) q (λ x t. ap (λ y. not (eq_by_cmp nat_cmp k y)) (sym (exact_unsigned q x t))) es

  below_less : (k x : ℕ) (es : List (ℕ × V)) → nat_cmp k x ≡ Less → below_all nat_cmp x es ≡ true → below_all nat_cmp k es ≡ true
  below_less k x [] is h = refl
  below_less k x (e ∷ es) is h =
      and_from _ _ (ap is_lt (nat_cmp_total.trans k x e.0 is (is_lt-true _ (first_so _ _ h)))) (below_less k x es is (second_so _ _ h))

  -- a key below the first isn't there
  pub lowest : (k : ℕ) (e : ℕ × V) (es : List (ℕ × V)) → nat_cmp k e.0 ≡ Less → is_sorted nat_cmp (e ∷ es) ≡ true → find nat_cmp k es ≡ None
  lowest k e es is sorted = find_above k es (below_less k e.0 es is (first_so _ _ sorted))
