-- The memberships and the PVIDs: two parts of the bridge's table.
-- Source: IEEE 802.1Q-2018 section 8.8 (the member set and the untagged set of a VLAN), section 6.9 (PVIDs), the kernel's
-- net/bridge/br_vlan.c.
use Rattle.std.specs.Prelude.{ℕ, ◌==◌, Bool, false, List, map}
use Rattle.std.specs.List.{filter}
use Rattle.std.specs.Option.{is_some, unwrap_or}
use Rattle.br_model.specs.declared.change.Change.{Change}
use Rattle.br_model.specs.Data.Maps.{pair_cmp, get}
use Rattle.br_model.specs.Table.Table.{Table, start, apply}

pub record Vlans : Type 0 where
  -- at a VLAN and a member port: whether frames leave it untagged
  pub vlans : List ((ℕ × ℕ) × Bool)
  -- at a port: the VLAN of untagged frames
  pub pvid : List (ℕ × ℕ)

-- these parts of a table
abbrev pub parts : Table → Vlans
parts t = record { vlans = t.vlans; pvid = t.pvid }

-- what a change makes of them
abbrev pub after : Vlans → Change → Vlans
after s c = parts (apply (record start { vlans = s.vlans; pvid = s.pvid }) c)

abbrev pub is_member : Vlans → ℕ → ℕ → Bool
is_member s port vid = is_some (get pair_cmp s.vlans (vid, port))

-- whether the VLAN's frames leave the port without a tag
abbrev pub is_untagged : Vlans → ℕ → ℕ → Bool
is_untagged s port vid = unwrap_or (get pair_cmp s.vlans (vid, port)) false

-- the VLANs of which the port is a member, ascending
abbrev pub vids_of : List ((ℕ × ℕ) × Bool) → ℕ → List ℕ
vids_of vlans port = map (λ e. e.0.0) (filter (λ e. e.0.1 == port) vlans)
