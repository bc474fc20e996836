-- The VLANs of a port, as one of them is switched.
use Rattle.std.proofs.Common.{◌≡◌, ◌≢◌, ℕ, ◌+◌, ◌*◌, ◌/◌, ◌%◌, ◌<◌, Bool, true, false, ◌&&◌, cond, ⊎_elim}
use Rattle.std.proofs.Common.{List, [], length, get_or, set, sym, ap, ap₂, subst, ◌∙◌, arith, get_or-set_same, get_or-set_other}
use Rattle.std.specs.Prelude.{◌==◌}
use Rattle.std.proofs.lemmas.Bool.{eq-eqb, ne_eqb}
use Rattle.std.proofs.lemmas.Bool.Decides.{eqb_tells}
use Rattle.port_sets.specs.Numbers.{has_number}
use Rattle.br_model.specs.Table.Domains.{port_places}
use Rattle.vlan_groups.specs.Joined.{block_at, block_count, block_switched, has_vlan, Switches}
use Rattle.vlan_groups.proofs.UsedSets.{has-numbers}

pub switches : (blocks : List (List ℕ)) (new : List ℕ) (p v : ℕ) (on : Bool) → length blocks ≡ block_count → p < port_places → v < 4096
    → new ≡ block_switched (block_at blocks p (v / 64)) (v % 64) on → Switches blocks (set blocks (64 * p + v / 64) new) p v on
switches blocks new p v on sized p_low v_low new_is q w low =
    ⊎_elim
    (λ (here : ((64 * q + w / 64 == 64 * p + v / 64) ≡ true) × (64 * q + w / 64 ≡ 64 * p + v / 64)).
    ap (λ (b : List ℕ). has_number b (w % 64)) (ap (λ i. get_or (set blocks (64 * p + v / 64) new) i []) here.1 ∙ get_or-set_same blocks (64 * p + v / 64) new [] inside)
    ∙ has-numbers 64 new _ new_is (w % 64) (omega arith)
    ∙ ap (λ i. cond (w % 64 == v % 64) on (has_number (get_or blocks i []) (w % 64))) (sym here.1)
    ∙ ap (λ b. cond b on (has_vlan blocks q w)) (at_place here.1))
    (λ (other : ((64 * q + w / 64 == 64 * p + v / 64) ≡ false) × (64 * q + w / 64 ≢ 64 * p + v / 64)).
    ap (λ (b : List ℕ). has_number b (w % 64)) (get_or-set_other blocks (64 * p + v / 64) (64 * q + w / 64) new [] other.1)
    ∙ ap (λ b. cond b on (has_vlan blocks q w)) (sym (off_place other.1)))
    (eqb_tells (64 * q + w / 64) (64 * p + v / 64))
  where
    inside : 64 * p + v / 64 < length blocks
    inside = subst (λ n. 64 * p + v / 64 < n) (sym sized) (omega arith)

    at_place : 64 * q + w / 64 ≡ 64 * p + v / 64 → (w % 64 == v % 64) ≡ ((q == p) && (w == v))
    at_place e =
        ⊎_elim
        (λ (same : ((w % 64 == v % 64) ≡ true) × (w % 64 ≡ v % 64)). same.0 ∙ sym (ap₂ (λ a b. a && b) (eq-eqb q p (omega arith)) (eq-eqb w v (omega arith))))
        (λ (other : ((w % 64 == v % 64) ≡ false) × (w % 64 ≢ v % 64)).
        other.0 ∙ sym (ap₂ (λ a b. a && b) (eq-eqb q p (omega arith)) (ne_eqb w v (λ is. other.1 (ap (λ n. n % 64) is)))))
        (eqb_tells (w % 64) (v % 64))

    off_place : 64 * q + w / 64 ≢ 64 * p + v / 64 → ((q == p) && (w == v)) ≡ false
    off_place apart =
        ⊎_elim
        (λ (a : ((q == p) ≡ true) × (q ≡ p)).
        ⊎_elim
        (λ (b : ((w == v) ≡ true) × (w ≡ v)). absurd (apart (ap₂ (λ x y. 64 * x + y / 64) a.1 b.1)))
        (λ (b : ((w == v) ≡ false) × (w ≢ v)). ap₂ (λ x y. x && y) a.0 b.0)
        (eqb_tells w v))
        (λ (a : ((q == p) ≡ false) × (q ≢ p)). ap (λ x. x && (w == v)) a.0)
        (eqb_tells q p)
