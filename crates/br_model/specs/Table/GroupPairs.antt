-- The pairs of VLAN and group that have members, and the room for them.
-- Source: the kernel's net/bridge/br_mdb.c (an entry is a group in a VLAN, with its ports); how many there may be is this
-- profile's.
use Rattle.std.specs.Prelude.{ℕ, nat_lt, Bool, ◌||◌, List, [], ◌∷◌, length}
use Rattle.std.specs.declared.cmp.Ordering.{Ordering}
use Rattle.std.specs.Ordering.{nat_cmp, then_cmp, on}
use Rattle.br_model.specs.declared.group.Group.{Group}
use Rattle.br_model.specs.Table.Groups.{Membership, group_cmp}
use Rattle.br_model.specs.Data.Maps.{joined, has}

abbrev pub GroupPair : Type 0
GroupPair = ℕ × Group

-- by VLAN and group
abbrev pub group_pair_cmp : GroupPair → GroupPair → Ordering
group_pair_cmp = then_cmp (on (λ k. k.0) nat_cmp) (on (λ k. k.1) group_cmp)

abbrev pub max_pairs : ℕ
max_pairs = 1024

-- the VLANs and groups that have members
abbrev pub group_pairs : List Membership → List GroupPair
group_pairs [] = []
group_pairs (m ∷ ms) = joined group_pair_cmp (group_pairs ms) (m.0, m.1)

-- whether one more member of the group would not make one pair too many
abbrev pub has_room : List Membership → ℕ → Group → Bool
has_room members vid group = has group_pair_cmp (group_pairs members) (vid, group) || nat_lt (length (group_pairs members)) max_pairs
