-- A change that fits leaves no more pairs of VLAN and group than there may be, and so does each front of a history.
use Rattle.std.proofs.Common.{◌≡◌, ℕ, ◌≤◌, true, List, length, take, arith}
use Rattle.br_model.specs.declared.change.Change.{Change}
use Rattle.br_model.specs.declared.change.Change.TheVariants.{GroupJoin, GroupPart}
use Rattle.br_model.specs.Table.GroupPairs.{group_pairs, max_pairs}
use Rattle.br_model.specs.Table.Limits.{fits, AreWithin}
use Rattle.br_model.specs.Table.Table.{Table, apply, table}
use Rattle.br_model.proofs.Table.GroupPairs.{few-joined, few-parted}
use Rattle.br_model.proofs.Table.Within.{front_keeps}

few-apply : (t : Table) (c : Change) → length (group_pairs t.groups) ≤ max_pairs → fits t c ≡ true → length (group_pairs (apply t c).groups) ≤ max_pairs
few-apply t (GroupJoin p v g) few fit = few-joined t.groups (v, g, p) few fit
few-apply t (GroupPart p v g) few fit = omega (arith, few, few-parted t.groups (v, g, p))
few-apply t c few fit = few

pub few_pairs-front : (H : List Change) → AreWithin H → (n : ℕ) → length (group_pairs (table (take n H)).groups) ≤ max_pairs
few_pairs-front = front_keeps (λ t. length (group_pairs t.groups) ≤ max_pairs) (omega arith) few-apply
