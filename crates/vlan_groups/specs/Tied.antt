-- The VLANs of each port beside the rows of the VLANs.
use Rattle.std.specs.Prelude.{◌≡◌, ℕ, ◌<◌, List, length}
use Rattle.std.specs.Option.{is_some}
use Rattle.br_model.specs.Data.Maps.{pair_cmp, get}
use Rattle.br_model.specs.Table.Domains.{port_places}
use Rattle.vlan_groups.specs.declared.row.Row.{Row}
use Rattle.vlan_groups.specs.Joined.{has_vlan}
use Rattle.vlan_groups.specs.Rows.{memberships_from}

-- a row for each VLAN, and a port has the VLANs of whose rows it is a member
pub record AreTied (rows : List Row) (blocks : List (List ℕ)) : Type 0 where
  pub sized : length rows ≡ 4094
  pub joined : (port vid : ℕ) → port < port_places → vid < 4096 → has_vlan blocks port vid ≡ is_some (get pair_cmp (memberships_from 1 rows) (vid, port))
