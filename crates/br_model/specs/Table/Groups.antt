-- Groups of IP multicast, and the memberships in their order.
-- Source: RFC 4541 section 2.1.2 and RFC 4291 section 2.7.1 (groups that are always flooded).
use Rattle.std.specs.Prelude.{ℕ, ◌/◌, ◌^◌, ◌==◌, Bool, true, false}
use Rattle.std.specs.declared.cmp.Ordering.{Ordering}
use Rattle.std.specs.declared.cmp.Ordering.TheVariants.{Less, Greater}
use Rattle.std.specs.Ordering.{nat_cmp, then_cmp, on}
use Rattle.br_model.specs.declared.group.Group.{Group}
use Rattle.br_model.specs.declared.group.Group.TheVariants.{V4, V6}

abbrev pub is_six : Group → Bool
is_six (V4 n) = false
is_six (V6 n) = true

-- in 224.0.0.0/24, or ff02::1
abbrev pub is_link_local : Group → Bool
is_link_local (V4 n) = n / 2 ^ 8 == 0xE00000
is_link_local (V6 n) = n == 0xFF020000000000000000000000000001

-- version 4 first
abbrev pub group_cmp : Group → Group → Ordering
group_cmp (V4 m) (V4 n) = nat_cmp m n
group_cmp (V4 m) (V6 n) = Less
group_cmp (V6 m) (V4 n) = Greater
group_cmp (V6 m) (V6 n) = nat_cmp m n

-- a port that is a member of a group in a VLAN
abbrev pub Membership : Type 0
Membership = ℕ × Group × ℕ

-- by VLAN, group and port
abbrev pub membership_cmp : Membership → Membership → Ordering
membership_cmp = then_cmp (on (λ m. m.0) nat_cmp) (then_cmp (on (λ m. m.1) group_cmp) (on (λ m. m.2) nat_cmp))
