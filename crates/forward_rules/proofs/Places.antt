-- Ports with something each, kept in a list with a place for each port: after one place is written.
use Rattle.std.proofs.Common.{◌≡◌, ℕ, ◌<◌, Bool, true, false, ◌&&◌, cond, List, length, set, get_or, Option}
use Rattle.std.proofs.Common.{None, Some, refl, sym, ap, ◌∙◌, arith, inl, inr, get_or-set_same, get_or-set_other, zero-add, ◌≤◌}
use Rattle.std.specs.Prelude.{◌==◌, nat_lt}
use Rattle.std.specs.Ordering.{nat_cmp}
use Rattle.std.proofs.Math.Bool.{and-false}
use Rattle.std.proofs.lemmas.Bool.{eq-eqb, ne_eqb}
use Rattle.std.proofs.lemmas.Bool.Decides.{eqb_tells}
use Rattle.br_model.specs.Table.Domains.{entries_from, last_port, port_places}
use Rattle.br_model.specs.Data.Maps.{get, put, without}
use Rattle.br_model.proofs.Table.DomainLaws.{get-entries, entries-set}
use Rattle.vlan_groups.proofs.Pvids.{entries-clear}
use Rattle.port_sets.specs.Numbers.{has_number}
use Rattle.port_sets.proofs.Numbers.{same_below, has-below}
use Rattle.vlan_groups.specs.Rows.{ports_where}
use Rattle.vlan_groups.proofs.RowLaws.{has-ports_where}
use Rattle.forward_rules.specs.PortSets.{ArePorts, placed}

abbrev Places : Type 0
Places = List (Option ℕ)

pub get-place : (places : Places) (k : ℕ) → get nat_cmp (entries_from 0 places) k ≡ get_or places k None
get-place places k = ap (get nat_cmp (entries_from 0 places)) (sym (zero-add k)) ∙ get-entries 0 k places

pub get-set : (places : Places) (k : ℕ) (o : Option ℕ) (q : ℕ) → k < length places
    → get nat_cmp (entries_from 0 (set places k o)) q ≡ cond (q == k) o (get nat_cmp (entries_from 0 places) q)
get-set places k o q within =
    get-place (set places k o) q
    ∙ elim (eqb_tells q k) [
      | inl e ↦
          ap (λ i. get_or (set places k o) i None) e.1
          ∙ get_or-set_same places k o None within
          ∙ sym (ap (λ b. cond b o (get nat_cmp (entries_from 0 places) q)) (eq-eqb q k e.1))
      | inr e ↦
          get_or-set_other places k q o None e.1
          ∙ sym (get-place places q)
          ∙ sym (ap (λ b. cond b o (get nat_cmp (entries_from 0 places) q)) (ne_eqb q k e.1))
    ]

-- the set of the ports whose entry passes, when one place is written
pub placed-is : (test : Option ℕ → Bool) (places : Places) (k p : ℕ) (o : Option ℕ) (on : Bool) (old new : List ℕ) → k < length places → k ≡ p
    → old ≡ ports_where (λ q. test (get nat_cmp (entries_from 0 places) q)) → on ≡ test o → new ≡ placed old p on
    → new ≡ ports_where (λ q. test (get nat_cmp (entries_from 0 (set places k o)) q))
placed-is test places k p o on old new within at e t made =
    made ∙ same_below _ _ port_places (λ q low.
    ap (λ b. cond (q == p) on b) (ap (λ (ns : List ℕ). has_number ns q) e ∙ has-below _ port_places q low)
    ∙ ap (λ b. cond (q == p) b (test (get nat_cmp (entries_from 0 places) q))) t
    ∙ inside (get nat_cmp (entries_from 0 places) q) (q == p)
    ∙ ap (λ i. test (cond (q == i) o (get nat_cmp (entries_from 0 places) q))) (sym at)
    ∙ sym (ap test (get-set places k o q within)))
  where
    inside : (x : Option ℕ) (b : Bool) → cond b (test o) (test x) ≡ test (cond b o x)
    inside x true = refl
    inside x false = refl

-- no number behind the last port comes in
pub placed-within : (old new : List ℕ) (p : ℕ) (on : Bool) → ArePorts old → p ≤ last_port → new ≡ placed old p on → ArePorts new
placed-within old new p on within low made n behind =
    ap (λ (ns : List ℕ). has_number ns n) made
    ∙ has-ports_where (λ m. cond (m == p) on (has_number old m)) n
    ∙ ap (λ b. nat_lt n port_places && cond b on (has_number old n)) (ne_eqb n p (omega (arith, low, behind)))
    ∙ ap (λ b. nat_lt n port_places && b) (within n behind)
    ∙ and-false (nat_lt n port_places)

pub put-is : (places : Places) (k p n : ℕ) (o : Option ℕ) → k < length places → k ≡ p → o ≡ Some n → entries_from 0 (set places k o) ≡ put nat_cmp (entries_from 0 places) p n
put-is places k p n o within at e =
    ap (λ x. entries_from 0 (set places k x)) e
    ∙ entries-set 0 k n places within
    ∙ ap (λ i. put nat_cmp (entries_from 0 places) i n) (zero-add k ∙ at)

pub without-is : (places : Places) (k p : ℕ) (o : Option ℕ) → k ≡ p → o ≡ None → entries_from 0 (set places k o) ≡ without nat_cmp (entries_from 0 places) p
without-is places k p o at e =
    ap (λ x. entries_from 0 (set places k x)) e
    ∙ entries-clear 0 k places
    ∙ ap (λ i. without nat_cmp (entries_from 0 places) i) (zero-add k ∙ at)
