-- What a chip has reported and what was hit.
-- Source: the kernel's switchdev.rst (SWITCHDEV_FDB_ADD_TO_BRIDGE, ageing in hardware); the ring and the hits are this profile's.
use Rattle.std.specs.Prelude.{ℕ, ◌==◌, ◌&&◌, Bool, List}
use Rattle.std.specs.List.{list_any}
use Rattle.br_model.specs.Plane.Chip.{Chip}

pub record Reported : Type 0 where
  -- VLAN, source address and port of each report that waits, the oldest first
  pub reports : List (ℕ × ℕ × ℕ)
  -- VLAN and address of each entry that was hit, ascending
  pub hits : List (ℕ × ℕ)

-- whether an equal report waits
abbrev pub is_waiting : List (ℕ × ℕ × ℕ) → ℕ × ℕ × ℕ → Bool
is_waiting reports x = list_any (λ y. (y.0 == x.0) && ((y.1 == x.1) && (y.2 == x.2))) reports

-- so many deferred changes are applied in the domain, and this was reported and hit
abbrev pub chip_of : ℕ → ℕ → Reported → Chip
chip_of dom count r = record { dom = dom; count = count; reports = r.reports; hits = r.hits }
