-- Sets of ports are joined as the definitions join them.
use Rattle.std.proofs.Common.{◌≡◌, ℕ, zero, suc, ◌+◌, ◌<◌, ◌≤◌, ◌==◌, ◌||◌, ◌⊎◌, inl, inr, Bool, true, false, cond, List, [], ◌∷◌, refl, sym, ap, ap₂, ◌∙◌, arith}
use Rattle.std.specs.List.{All, filter, range_with_len}
use Rattle.std.proofs.lemmas.List.Elements.{All-head, All-tail}
use Rattle.std.specs.declared.cmp.Ordering.TheVariants.{Equal}
use Rattle.std.specs.Ordering.{nat_cmp, eq_by_cmp, match_ordering}
use Rattle.std.proofs.lemmas.Bool.{cases_eq, cases_Bool, eq-eqb, ne_eqb}
use Rattle.std.proofs.lemmas.Bool.Decides.{nat_tests}
use Rattle.lemmas.proofs.Orders.{nat_cmp-itself, nat_cmp-lt as below, nat_cmp-gt}
use Rattle.lemmas.proofs.Tests.{or_exchange, or-false}
use Rattle.br_model.specs.Table.Domains.{port_places}
use Rattle.br_model.specs.Data.Maps.{has, joined}
use Rattle.br_model.specs.Tree.Sending.{union}
use Rattle.port_sets.specs.Numbers.{numbers_below, has_number, IsSetBelow}

eq_is : (k m : ℕ) → eq_by_cmp nat_cmp k m ≡ (k == m)
eq_is k m = grind (arith, nat_tests)

pub has_number_is : (s : List ℕ) (k : ℕ) → has_number s k ≡ has nat_cmp s k
has_number_is [] k = refl
has_number_is (x ∷ s) k = ap₂ (λ a b. a || b) (sym (eq_is k x)) (has_number_is s k)

insert-before : (p : ℕ → Bool) (k a n : ℕ) → k < a → joined nat_cmp (filter p (range_with_len a n)) k ≡ k ∷ filter p (range_with_len a n)
insert-before p k a zero h = refl
insert-before p k a (suc n) h = by (p a) (insert-before p k (a + 1) n (omega arith))
  where
    by : (b : Bool) → joined nat_cmp (filter p (range_with_len (a + 1) n)) k ≡ k ∷ filter p (range_with_len (a + 1) n)
        → joined nat_cmp (cond b (a ∷ filter p (range_with_len (a + 1) n)) (filter p (range_with_len (a + 1) n))) k
        ≡ k ∷ cond b (a ∷ filter p (range_with_len (a + 1) n)) (filter p (range_with_len (a + 1) n))
    by true e =
        let xs : List ℕ = filter p (range_with_len (a + 1) n) in
        ap (λ r. match_ordering r (k ∷ a ∷ xs) (a ∷ xs) (a ∷ joined nat_cmp xs k)) (below k a h)
    by false e = e

others : (p : ℕ → Bool) (k a n : ℕ) → k < a → filter (λ m. (m == k) || p m) (range_with_len a n) ≡ filter p (range_with_len a n)
others p k a zero h = refl
others p k a (suc n) h =
    ap (λ b. cond (b || p a) (a ∷ filter (λ m. (m == k) || p m) (range_with_len (a + 1) n)) (filter (λ m. (m == k) || p m) (range_with_len (a + 1) n))) (ne_eqb a k (omega arith))
    ∙ ap (λ (xs : List ℕ). cond (p a) (a ∷ xs) xs) (others p k (a + 1) n (omega arith))

insert-range : (p : ℕ → Bool) (k a n : ℕ) → a ≤ k → k < a + n → joined nat_cmp (filter p (range_with_len a n)) k ≡ filter (λ m. (m == k) || p m) (range_with_len a n)
insert-range p k a zero low high = absurd (omega arith)
insert-range p k a (suc n) low high = by (λ apart. insert-range p k (a + 1) n (omega arith) (omega arith)) (cases_eq a k) (cases_Bool (p a))
  where
    by : ((a ≡ k → ⊥) → joined nat_cmp (filter p (range_with_len (a + 1) n)) k ≡ filter (λ m. (m == k) || p m) (range_with_len (a + 1) n))
        → (a ≡ k) ⊎ (a ≡ k → ⊥) → (p a ≡ true) ⊎ (p a ≡ false)
        → joined nat_cmp (cond (p a) (a ∷ filter p (range_with_len (a + 1) n)) (filter p (range_with_len (a + 1) n))) k
        ≡ cond ((a == k) || p a) (a ∷ filter (λ m. (m == k) || p m) (range_with_len (a + 1) n)) (filter (λ m. (m == k) || p m) (range_with_len (a + 1) n))
    by rest (inl here) (inl passes) =
        let xs : List ℕ = filter p (range_with_len (a + 1) n) in
        let r : nat_cmp k a ≡ Equal = ap (nat_cmp k) here ∙ nat_cmp-itself k in
        ap (λ b. joined nat_cmp (cond b (a ∷ xs) xs) k) passes
        ∙ ap (λ r. match_ordering r (k ∷ a ∷ xs) (a ∷ xs) (a ∷ joined nat_cmp xs k)) r
        ∙ ap (λ (ys : List ℕ). a ∷ ys) (sym (others p k (a + 1) n (omega arith)))
        ∙ sym (ap (λ b. cond (b || p a) (a ∷ filter (λ m. (m == k) || p m) (range_with_len (a + 1) n)) (filter (λ m. (m == k) || p m) (range_with_len (a + 1) n))) (eq-eqb a k here))
    by rest (inl here) (inr fails) =
        let xs : List ℕ = filter p (range_with_len (a + 1) n) in
        ap (λ b. joined nat_cmp (cond b (a ∷ xs) xs) k) fails
        ∙ insert-before p k (a + 1) n (omega arith)
        ∙ ap₂ (λ (m : ℕ) (ys : List ℕ). m ∷ ys) (sym here) (sym (others p k (a + 1) n (omega arith)))
        ∙ sym (ap (λ b. cond (b || p a) (a ∷ filter (λ m. (m == k) || p m) (range_with_len (a + 1) n)) (filter (λ m. (m == k) || p m) (range_with_len (a + 1) n))) (eq-eqb a k here))
    by rest (inr apart) (inl passes) =
        let xs : List ℕ = filter p (range_with_len (a + 1) n) in
        ap (λ b. joined nat_cmp (cond b (a ∷ xs) xs) k) passes
        ∙ ap (λ r. match_ordering r (k ∷ a ∷ xs) (a ∷ xs) (a ∷ joined nat_cmp xs k)) (nat_cmp-gt k a (omega arith))
        ∙ ap (λ (ys : List ℕ). a ∷ ys) (rest apart)
        ∙ sym (ap₂ (λ b c. cond (b || c) (a ∷ filter (λ m. (m == k) || p m) (range_with_len (a + 1) n)) (filter (λ m. (m == k) || p m) (range_with_len (a + 1) n))) (ne_eqb a k apart) passes)
    by rest (inr apart) (inr fails) =
        let xs : List ℕ = filter p (range_with_len (a + 1) n) in
        ap (λ b. joined nat_cmp (cond b (a ∷ xs) xs) k) fails
        ∙ rest apart
        ∙ sym (ap₂ (λ b c. cond (b || c) (a ∷ filter (λ m. (m == k) || p m) (range_with_len (a + 1) n)) (filter (λ m. (m == k) || p m) (range_with_len (a + 1) n))) (ne_eqb a k apart) fails)

insert-set : (p : ℕ → Bool) (k : ℕ) → k < port_places → joined nat_cmp (numbers_below port_places p) k ≡ numbers_below port_places (λ m. (m == k) || p m)
unfolding numbers_below
insert-set p k low = insert-range p k 0 port_places (omega arith) (omega arith)

union-from : (p : ℕ → Bool) (q : List ℕ) → All (λ n. n < port_places) q → union (numbers_below port_places p) q ≡ numbers_below port_places (λ m. p m || has_number q m)
union-from p [] below = λ i. numbers_below port_places (λ m. sym (or-false (p m)) i)
union-from p (k ∷ q) below =
    ap (λ s. union s q) (insert-set p k (All-head (λ n. n < port_places) k q below))
    ∙ union-from (λ m. (m == k) || p m) q (All-tail (λ n. n < port_places) k q below)
    ∙ (λ i. numbers_below port_places (λ m. or_exchange (m == k) (p m) (has_number q m) i))

-- the members of both
pub union-is : (s q : List ℕ) → IsSetBelow port_places s → All (λ n. n < port_places) q → numbers_below port_places (λ m. has_number s m || has_number q m) ≡ union s q
union-is s q set below = sym (union-from (has_number s) q below) ∙ ap (λ l. union l q) (sym set)

-- the set of one
pub alone : (p : ℕ) (none : List ℕ) → none ≡ [] → p < port_places → numbers_below port_places (λ m. (m == p) || has_number none m) ≡ p ∷ []
unfolding numbers_below
alone p none empty low =
    ap (λ l. numbers_below port_places (λ m. (m == p) || has_number l m)) empty ∙ sym (insert-set (λ m. false) p low)
