-- Which of a port's blocks of VLANs aren't empty, as one of them is written.
use Rattle.std.proofs.Common.{◌≡◌, ◌≢◌, ℕ, ◌+◌, ◌*◌, ◌<◌, Bool, true, false, not, cond, ⊎_elim, List, []}
use Rattle.std.proofs.Common.{length, get_or, set, replicate, get_or-set_same, get_or-set_other, length-set, IsTrue, ◌↔◌, refl, sym, ap, ◌∙◌, arith}
use Rattle.std.specs.Prelude.{◌==◌}
use Rattle.std.proofs.lemmas.Bool.Decides.{eqb_tells}
use Rattle.std.proofs.lemmas.List.{length-replicate, get_or-replicate}
use Rattle.port_sets.specs.Numbers.{has_number, numbers_below}
use Rattle.port_sets.proofs.Numbers.{has-below}
use Rattle.br_model.specs.Table.Domains.{port_places}
use Rattle.vlan_groups.specs.Joined.{block_at, block_count, block_switched}
use Rattle.vlan_groups.specs.UsedSets.{AreUsed}

-- a set of the numbers that pass has just these
pub has-numbers : (most : ℕ) (set : List ℕ) (test : ℕ → Bool) → set ≡ numbers_below most test → (n : ℕ) → n < most → has_number set n ≡ test n
has-numbers most set test is n low = ap (λ (ns : List ℕ). has_number ns n) is ∙ has-below test most n low

-- no set, and no VLAN
pub none_used : (blocks used : List (List ℕ)) → blocks ≡ replicate block_count [] → used ≡ replicate port_places [] → AreUsed blocks used
none_used blocks used no_blocks none = record {
  sized = ap (λ (bs : List (List ℕ)). length bs) no_blocks ∙ length-replicate {A = List ℕ} block_count [];
  ports = ap (λ (us : List (List ℕ)). length us) none ∙ length-replicate {A = List ℕ} port_places [];
  others = λ port i p_low i_low. (
    (λ _. ap (λ (bs : List (List ℕ)). block_at bs port i) no_blocks ∙ get_or-replicate block_count (64 * port + i) [] [] (omega arith)),
    (λ _. ap (λ (us : List (List ℕ)). has_number (get_or us port []) i) none ∙ ap (λ (u : List ℕ). has_number u i) (get_or-replicate port_places port [] [] p_low)),
  );
}

same : (b c : Bool) (xs ys : List ℕ) → b ≡ c → xs ≡ ys → (c ≡ false) ↔ (ys ≡ []) → (b ≡ false) ↔ (xs ≡ [])
same b c xs ys b_is xs_is old = ((λ e. xs_is ∙ old.0 (sym b_is ∙ e)), (λ e. b_is ∙ old.1 (sym xs_is ∙ e)))

emptied : (b : Bool) (xs : List ℕ) → IsTrue b ↔ (xs ≡ []) → (not b ≡ false) ↔ (xs ≡ [])
emptied true xs tells = ((λ _. tells.0 refl), (λ _. refl))
emptied false xs tells = ((λ e. tells.0 (sym e)), (λ e. sym (tells.1 e)))

-- one set of a port is written
pub set_used : (blocks used : List (List ℕ)) (p i : ℕ) (block now : List ℕ) (empty : Bool) → AreUsed blocks used → p < port_places → i < 64
    → now ≡ block_switched (get_or used p []) i (not empty) → IsTrue empty ↔ (block ≡ []) → AreUsed (set blocks (64 * p + i) block) (set used p now)
set_used blocks used p i block now empty old p_low i_low now_is tells = record {
  sized = length-set blocks (64 * p + i) block ∙ old.sized;
  ports = length-set used p now ∙ old.ports;
  others = λ q j q_low j_low.
      ⊎_elim
      (λ (here : ((q == p) ≡ true) × (q ≡ p)).
      of_port q j q_low j_low here.1
      (ap (λ n. has_number (get_or (set used p now) n []) j) here.1 ∙ ap (λ (us : List ℕ). has_number us j) (get_or-set_same used p now [] (omega (arith, old.ports)))
      ∙ has-numbers 64 now _ now_is j j_low))
      (λ (other : ((q == p) ≡ false) × (q ≢ p)).
      same _ _ _ _ (ap (λ (us : List ℕ). has_number us j) (get_or-set_other used p q now [] other.1))
      (get_or-set_other blocks (64 * p + i) (64 * q + j) block [] (λ e. other.1 (omega arith)))
      (old.others q j q_low j_low))
      (eqb_tells q p);
}
  where
    of_port : (q j : ℕ) → q < port_places → j < 64 → q ≡ p → has_number (get_or (set used p now) q []) j ≡ cond (j == i) (not empty) (has_number (get_or used p []) j)
        → (has_number (get_or (set used p now) q []) j ≡ false) ↔ (block_at (set blocks (64 * p + i) block) q j ≡ [])
    of_port q j q_low j_low at_p is =
        ⊎_elim
        (λ (here : ((j == i) ≡ true) × (j ≡ i)).
        same _ _ _ _ (is ∙ ap (λ c. cond c (not empty) (has_number (get_or used p []) j)) here.0)
        (ap (λ k. get_or (set blocks (64 * p + i) block) k []) (let e : 64 * q + j ≡ 64 * p + i = omega (arith, at_p, here.1) in e)
        ∙ get_or-set_same blocks (64 * p + i) block [] (omega (arith, old.sized)))
        (emptied empty block tells))
        (λ (other : ((j == i) ≡ false) × (j ≢ i)).
        same _ _ _ _ (is ∙ ap (λ c. cond c (not empty) (has_number (get_or used p []) j)) other.0)
        (get_or-set_other blocks (64 * p + i) (64 * q + j) block [] (λ e. other.1 (omega (arith, at_p))) ∙ ap (λ n. block_at blocks n j) at_p)
        (old.others p j p_low j_low))
        (eqb_tells j i)
