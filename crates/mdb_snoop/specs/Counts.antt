-- Of how many groups each port is a member.
use Rattle.std.specs.Prelude.{◌≡◌, ℕ, List, length, slice_index}
use Rattle.br_model.specs.Table.Domains.{port_places}
use Rattle.br_model.specs.Table.Groups.{Membership}
use Rattle.mdb_snoop.specs.Database.{pairs_of_port}

-- what the numbers count
pub record AreCounts (counts : List ℕ) (members : List Membership) : Type 0 where
  pub sized : length counts ≡ port_places
  pub counted : (port : ℕ) → slice_index counts port ≡ length (pairs_of_port members port)
