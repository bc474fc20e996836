-- The ordered sets of std, at sets of numbers below a bound.
use Rattle.std.proofs.Common.{◌≡◌, ℕ, zero, suc, ◌+◌, ◌<◌, ◌≤◌, Bool, not, ◌&&◌, ◌||◌, cond, List, ◌∷◌, refl, sym, ap, ◌∙◌, arith, inl, inr}
use Rattle.std.specs.Prelude.{◌==◌}
use Rattle.std.specs.List.{filter, range_with_len}
use Rattle.std.specs.BTreeSet.{insert_key}
use Rattle.std.specs.Cmp.{nat_cmp_is, unsigned_tied}
use Rattle.std.specs.Ordering.{nat_cmp, eq_by_cmp, match_ordering}
use Rattle.std.specs.declared.cmp.Ordering.TheVariants.{Less, Equal, Greater}
use Rattle.std.proofs.lemmas.Bool.{eq-eqb, ne_eqb, cases_Bool}
use Rattle.std.proofs.lemmas.Bool.Decides.{eqb_tells}
use Rattle.lemmas.proofs.Numbers.{eqb-sym}
use Rattle.port_sets.specs.Numbers.{numbers_below, has_number, IsSetBelow}
use Rattle.port_sets.proofs.Numbers.{same_from, same_below, filter-set}

-- a number below all goes first
insert_first : (p : ℕ → Bool) (a n k : ℕ) → k < a → insert_key nat_cmp (filter p (range_with_len a n)) k ≡ k ∷ filter p (range_with_len a n)
insert_first p a zero k h = refl
insert_first p a (suc n) k h =
    let rest : List ℕ = filter p (range_with_len (a + 1) n) in
    elim (cases_Bool (p a)) [
      | inl e ↦
          ap (λ b. insert_key nat_cmp (cond b (a ∷ rest) rest) k) e
          ∙ ap (λ r. match_ordering r (k ∷ a ∷ rest) (a ∷ rest) (a ∷ insert_key nat_cmp rest k)) (sym (nat_cmp_is k a Less h))
          ∙ sym (ap (λ b. k ∷ cond b (a ∷ rest) rest) e)
      | inr e ↦
          ap (λ b. insert_key nat_cmp (cond b (a ∷ rest) rest) k) e
          ∙ insert_first p (a + 1) n k (omega arith)
          ∙ sym (ap (λ b. k ∷ cond b (a ∷ rest) rest) e)
    ]

insert_from : (p : ℕ → Bool) (a n k : ℕ) → a ≤ k → k < a + n → insert_key nat_cmp (filter p (range_with_len a n)) k ≡ filter (λ m. (m == k) || p m) (range_with_len a n)
insert_from p a zero k low high = absurd (omega arith)
insert_from p a (suc n) k low high =
    let q : ℕ → Bool = λ m. (m == k) || p m in
    let rest : List ℕ = filter p (range_with_len (a + 1) n) in
    let more : List ℕ = filter q (range_with_len (a + 1) n) in
    elim (eqb_tells a k) [
      | inl here ↦
          let same : rest ≡ more = same_from p q (a + 1) n (λ m above below. sym (ap (λ b. b || p m) (ne_eqb m k (omega (arith, here.1))))) in
          let right : filter q (range_with_len a (suc n)) ≡ a ∷ more = ap (λ b. cond (b || p a) (a ∷ more) more) (eq-eqb a k here.1) in
          elim (cases_Bool (p a)) [
            | inl e ↦
                ap (λ b. insert_key nat_cmp (cond b (a ∷ rest) rest) k) e
                ∙ ap (λ r. match_ordering r (k ∷ a ∷ rest) (a ∷ rest) (a ∷ insert_key nat_cmp rest k)) (sym (nat_cmp_is k a Equal (sym here.1)))
                ∙ ap (λ (l : List ℕ). a ∷ l) same
                ∙ sym right
            | inr e ↦
                ap (λ b. insert_key nat_cmp (cond b (a ∷ rest) rest) k) e
                ∙ insert_first p (a + 1) n k (omega (arith, here.1))
                ∙ ap (λ m. m ∷ rest) (sym here.1)
                ∙ ap (λ (l : List ℕ). a ∷ l) same
                ∙ sym right
          ]
      | inr other ↦
          let later : insert_key nat_cmp rest k ≡ more = insert_from p (a + 1) n k (omega (arith, other.1)) (omega arith) in
          let right : filter q (range_with_len a (suc n)) ≡ cond (p a) (a ∷ more) more = ap (λ b. cond (b || p a) (a ∷ more) more) (ne_eqb a k other.1) in
          elim (cases_Bool (p a)) [
            | inl e ↦
                ap (λ b. insert_key nat_cmp (cond b (a ∷ rest) rest) k) e
                ∙ ap (λ r. match_ordering r (k ∷ a ∷ rest) (a ∷ rest) (a ∷ insert_key nat_cmp rest k)) (sym (nat_cmp_is k a Greater (omega (arith, other.1))))
                ∙ ap (λ (l : List ℕ). a ∷ l) later
                ∙ sym (right ∙ ap (λ b. cond b (a ∷ more) more) e)
            | inr e ↦
                ap (λ b. insert_key nat_cmp (cond b (a ∷ rest) rest) k) e
                ∙ later
                ∙ sym (right ∙ ap (λ b. cond b (a ∷ more) more) e)
          ]
    ]

-- one more member
pub insert_key-set : (most k : ℕ) (s : List ℕ) → IsSetBelow most s → k < most → insert_key nat_cmp s k ≡ numbers_below most (λ m. (m == k) || has_number s m)
unfolding numbers_below
insert_key-set most k s set low = ap (λ (l : List ℕ). insert_key nat_cmp l k) set ∙ insert_from (has_number s) 0 most k (omega arith) (omega arith)

-- one member less
pub without-set : (most k : ℕ) (s : List ℕ) → IsSetBelow most s → filter (λ q. not (eq_by_cmp nat_cmp k q)) s ≡ numbers_below most (λ m. has_number s m && not (m == k))
without-set most k s set =
    filter-set most s (λ q. not (eq_by_cmp nat_cmp k q)) set
    ∙ same_below _ _ most (λ m low. ap (λ b. has_number s m && not b) (unsigned_tied k m ∙ eqb-sym k m))
