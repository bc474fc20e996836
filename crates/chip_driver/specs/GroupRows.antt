-- The group rows that a driver makes of the members that it keeps.
use Rattle.std.specs.Prelude.{◌≡◌, ℕ, Bool, true, ◌==◌, ◌&&◌, List, Option, Some, None, is_some, if◌then◌else◌}
use Rattle.std.specs.List.{list_any}
use Rattle.std.specs.Ordering.{eq_by_cmp}
use Rattle.br_model.specs.Table.GroupPairs.{GroupPair, group_pair_cmp}
use Rattle.br_model.specs.Table.Groups.{Membership}
use Rattle.br_model.specs.Data.Maps.{get, is_ascending}
use Rattle.mdb_snoop.specs.Database.{ports_in}
use Rattle.port_sets.specs.Numbers.{has_number}
use Rattle.chip_tables.specs.declared.rows.FanRow.{FanRow}
use Rattle.chip_tables.specs.Rows.{Rows, vlan_at}
use Rattle.chip_tables.specs.Stands.{IsVid}
use Rattle.chip_driver.specs.declared.shadow.Shadow.{Shadow}
use Rattle.chip_driver.specs.Shadows.{fan_to}

-- whether the pair has a member
abbrev pub has_pair : List Membership → GroupPair → Bool
has_pair members k = list_any (λ m. eq_by_cmp group_pair_cmp k (m.0, m.1)) members

-- the row of a group in a VLAN
abbrev pub group_fan : Shadow → Rows → List Membership → GroupPair → FanRow
group_fan s rows members k = fan_to s (vlan_at rows k.0).members (has_number (ports_in members k.0 k.1))

-- There is a row for each pair that has a member.
pub record AreUsed (members : List Membership) (rows : Rows) : Type 0 where
  pub used : (k : GroupPair) → is_some (get group_pair_cmp rows.groups k) ≡ has_pair members k
  pub ascending : is_ascending group_pair_cmp rows.groups ≡ true

-- It is the one of the shadow, the VLAN's members and the group's.
pub record GroupsFollow (s : Shadow) (members : List Membership) (rows : Rows) : Type 0 where
  pub vids : (k : GroupPair) → has_pair members k ≡ true → IsVid k.0
  pub at : (k : GroupPair) → get group_pair_cmp rows.groups k
      ≡ (if has_pair members k then Some (group_fan s rows members k) else None)
  pub ascending : is_ascending group_pair_cmp rows.groups ≡ true

-- whether the port is a member
abbrev pub is_member : List Membership → ℕ → GroupPair → Bool
is_member members port k = has_number (ports_in members k.0 k.1) port

-- whether the VLAN is the one that is asked for, or none is
abbrev pub is_among : Option ℕ → ℕ → Bool
is_among None v = true
is_among (Some vid) v = v == vid

-- The group rows that pass are made anew, and all other rows stay.
pub record RefreshesGroups (test : GroupPair → Bool) (s : Shadow) (members : List Membership) (old new : Rows) : Type 0 where
  pub at : (k : GroupPair) → get group_pair_cmp new.groups k
      ≡ (if has_pair members k && test k then Some (group_fan s old members k) else get group_pair_cmp old.groups k)
  pub ascending : is_ascending group_pair_cmp new.groups ≡ true
  pub rest : new ≡ record old { groups = new.groups }
