-- The orders of groups, of pairs of VLAN and group, and of memberships.
use Rattle.std.proofs.Common.{◌≡◌, ℕ, ◌&&◌, refl, ap, ap₂, ◌∙◌, sym}
use Rattle.std.specs.Prelude.{◌==◌}
use Rattle.std.specs.Cmp.{IsTotalOrder, then_total, on_total, nat_cmp_total, unsigned_ties}
use Rattle.std.specs.FinMap.{nat_cmp-IsAntisymmetric}
use Rattle.std.specs.Ordering.{nat_cmp, ordering_then, ordering_reverse, is_eq}
use Rattle.std.specs.declared.cmp.Ordering.TheVariants.{Less, Equal}
use Rattle.lemmas.proofs.Orders.{then-equal, then_assoc, is_eq-then, is_eq-reverse}
use Rattle.br_model.specs.declared.group.Group.{Group}
use Rattle.br_model.specs.declared.group.Group.TheVariants.{V4, V6}
use Rattle.br_model.specs.Table.GroupPairs.{GroupPair, group_pair_cmp}
use Rattle.br_model.specs.Table.Groups.{group_cmp, membership_cmp}

reversed : (x y : Group) → group_cmp x y ≡ ordering_reverse (group_cmp y x)
reversed (V4 m) (V4 n) = nat_cmp_total.antisymm m n
reversed (V4 m) (V6 n) = refl
reversed (V6 m) (V4 n) = refl
reversed (V6 m) (V6 n) = nat_cmp_total.antisymm m n

rising : (x y z : Group) → group_cmp x y ≡ Less → group_cmp y z ≡ Less → group_cmp x z ≡ Less
rising (V4 a) (V4 b) (V4 c) p q = nat_cmp_total.trans a b c p q
rising (V4 a) (V4 b) (V6 c) p q = refl
rising (V4 a) (V6 b) (V4 c) p q = absurd (cc (q))
rising (V4 a) (V6 b) (V6 c) p q = refl
rising (V6 a) (V4 b) z p q = absurd (cc (p))
rising (V6 a) (V6 b) (V4 c) p q = absurd (cc (q))
rising (V6 a) (V6 b) (V6 c) p q = nat_cmp_total.trans a b c p q

alike : (x y z : Group) → group_cmp x y ≡ Equal → group_cmp x z ≡ group_cmp y z
alike (V4 a) (V4 b) (V4 c) p = nat_cmp_total.congr a b c p
alike (V4 a) (V4 b) (V6 c) p = refl
alike (V4 a) (V6 b) z p = absurd (cc (p))
alike (V6 a) (V4 b) z p = absurd (cc (p))
alike (V6 a) (V6 b) (V4 c) p = refl
alike (V6 a) (V6 b) (V6 c) p = nat_cmp_total.congr a b c p

pub group_total : IsTotalOrder group_cmp
group_total = record { antisymm = reversed; trans = rising; congr = alike }

pub pair_total : IsTotalOrder group_pair_cmp
pair_total = then_total (on_total (λ k. k.0) nat_cmp_total) (on_total (λ k. k.1) group_total)

pub membership_total : IsTotalOrder membership_cmp
membership_total = then_total (on_total (λ m. m.0) nat_cmp_total) (then_total (on_total (λ m. m.1) group_total) (on_total (λ m. m.2) nat_cmp_total))

pub equal_groups : (x y : Group) → group_cmp x y ≡ Equal → x ≡ y
equal_groups (V4 m) (V4 n) e = ap V4 (nat_cmp-IsAntisymmetric m n e)
equal_groups (V4 m) (V6 n) e = absurd (cc (e))
equal_groups (V6 m) (V4 n) e = absurd (cc (e))
equal_groups (V6 m) (V6 n) e = ap V6 (nat_cmp-IsAntisymmetric m n e)

pub equal_pairs : (k j : GroupPair) → group_pair_cmp k j ≡ Equal → k ≡ j
equal_pairs k j e =
    let parts = then-equal (nat_cmp k.0 j.0) (group_cmp k.1 j.1) e in
    ap₂ (λ v g. (v, g)) (nat_cmp-IsAntisymmetric k.0 j.0 parts.0) (equal_groups k.1 j.1 parts.1)

-- first by VLAN and group, then by port
pub by_pair : (k j : GroupPair) (p q : ℕ) → membership_cmp (k.0, k.1, p) (j.0, j.1, q) ≡ ordering_then (group_pair_cmp k j) (nat_cmp p q)
by_pair k j p q = then_assoc (nat_cmp k.0 j.0) (group_cmp k.1 j.1) (nat_cmp p q)

-- the test of a membership of this VLAN and group
pub is_of_pair : (k j : GroupPair) → (j.0 == k.0 && is_eq (group_cmp j.1 k.1)) ≡ is_eq (group_pair_cmp k j)
is_of_pair k j =
    ap (λ b. b && is_eq (group_cmp j.1 k.1)) (unsigned_ties j.0 k.0)
    ∙ sym (is_eq-then (nat_cmp j.0 k.0) (group_cmp j.1 k.1))
    ∙ ap is_eq (pair_total.antisymm j k)
    ∙ is_eq-reverse (group_pair_cmp k j)
