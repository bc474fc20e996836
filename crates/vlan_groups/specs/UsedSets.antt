-- Which of a port's blocks of VLANs aren't empty.
use Rattle.std.specs.Prelude.{◌≡◌, ℕ, ◌<◌, ◌↔◌, false, List, [], length, slice_index_or}
use Rattle.br_model.specs.Table.Domains.{port_places}
use Rattle.port_sets.specs.Numbers.{has_number}
use Rattle.vlan_groups.specs.Joined.{block_at, block_count}

-- 64 blocks for each port, and of each port the numbers of its blocks that aren't empty
pub record AreUsed (blocks used : List (List ℕ)) : Type 0 where
  pub sized : length blocks ≡ block_count
  pub ports : length used ≡ port_places
  pub others : (port i : ℕ) → port < port_places → i < 64 → (has_number (slice_index_or used port []) i ≡ false) ↔ (block_at blocks port i ≡ [])
