-- A table and the spanning tree belong together: both have the same ports up, each in the same state, which is one of Linux's.
-- Source: the kernel's br_set_state (a port's state is set in the event that changes it).
use Rattle.std.specs.Prelude.{◌≡◌, ℕ, ◌<◌, ◌≤◌, true, false, [], ◌∷◌, ◌++◌, length}
use Rattle.std.specs.Option.{option_map}
use Rattle.std.specs.Ordering.{nat_cmp}
use Rattle.std.specs.declared.option.Option.TheVariants.{None}
use Rattle.br_model.specs.declared.change.Change.{Change}
use Rattle.br_model.specs.declared.change.Change.TheVariants.{SetState, GroupJoin, AddrPut}
use Rattle.br_model.specs.Control.Control.{keeps_up}
use Rattle.br_model.specs.Control.Course.{Course}
use Rattle.br_model.specs.Data.Maps.{pair_cmp, get, has}
use Rattle.br_model.specs.Table.GroupPairs.{group_pair_cmp, group_pairs, max_pairs}
use Rattle.br_model.specs.Table.Limits.{most_addresses}
use Rattle.br_model.specs.Table.Table.{Table, apply}
use Rattle.br_model.specs.Theorems.TreeLaws.{knows_states}
use Rattle.br_model.specs.Tree.Tree.{Tree, numbers}

pub record StatesAgree (t : Table) (tree : Tree) : Type 0 where
  pub up : t.up ≡ numbers tree.ports
  pub states : (port : ℕ) → get nat_cmp t.state port ≡ option_map (λ x. x.state) (get nat_cmp tree.ports port)
  pub known : knows_states tree ≡ true

-- A change that comes on top of a full table: it joins a group that has no member in the VLAN yet, with as many pairs of VLAN and
-- group as may be; or it puts an address that has no entry, with as many entries as may be. No other change is one.
abbrev pub IsBeyond : Table → Change → Type 0
IsBeyond t (GroupJoin port vid group) = (has group_pair_cmp (group_pairs t.groups) (vid, group) ≡ false) × (max_pairs ≤ length (group_pairs t.groups))
IsBeyond t (AddrPut vid mac port kind) = (get pair_cmp t.addr (vid, mac) ≡ None) × (most_addresses ≤ length t.addr)
IsBeyond t c = ⊥

-- a state that none of Linux's is
abbrev pub IsUnknown : Change → Type 0
IsUnknown (SetState port state) = 4 < state
IsUnknown c = ⊥

-- the reaction with one change more
abbrev pub with_change : Course → Change → Course
with_change r c = record r { table = apply r.table c; control = keeps_up r.control c; changes = r.changes ++ c ∷ [] }
