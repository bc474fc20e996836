-- The VLANs of each port in blocks of 64: block i of a port has VLAN 64 i + n where it has the number n.
use Rattle.std.specs.Prelude.{◌≡◌, ℕ, ◌+◌, ◌*◌, ◌/◌, ◌%◌, ◌<◌, ◌==◌, nat_le, Bool, ◌&&◌, if◌then◌else◌, List, [], map, slice_index_or}
use Rattle.std.specs.List.{filter}
use Rattle.br_model.specs.Table.Domains.{port_places}
use Rattle.port_sets.specs.Numbers.{has_number, numbers_below}

-- how many blocks there are, 64 a port
abbrev pub block_count : ℕ
block_count = 64 * port_places

-- block i of the port
abbrev pub block_at : List (List ℕ) → ℕ → ℕ → List ℕ
block_at blocks port i = slice_index_or blocks (64 * port + i) []

-- whether the port is in the VLAN
abbrev pub has_vlan : List (List ℕ) → ℕ → ℕ → Bool
has_vlan blocks port vid = has_number (block_at blocks port (vid / 64)) (vid % 64)

-- the block with the number or without it
abbrev pub block_switched : List ℕ → ℕ → Bool → List ℕ
block_switched block n on = numbers_below 64 (λ m. if m == n then on else has_number block m)

-- one VLAN of the port is switched
abbrev pub Switches : List (List ℕ) → List (List ℕ) → ℕ → ℕ → Bool → Type 0
Switches old new port vid on = (q v : ℕ) → v < 4096
    → has_vlan new q v ≡ (if (q == port) && (v == vid) then on else has_vlan old q v)

-- whether the number is that of a VLAN
abbrev pub is_vlan : ℕ → Bool
is_vlan v = nat_le 1 v && nat_le v 4094

-- the VLANs that block i has
abbrev pub vids_in : ℕ → List ℕ → List ℕ
vids_in i block = filter is_vlan (map (λ n. 64 * i + n) block)
