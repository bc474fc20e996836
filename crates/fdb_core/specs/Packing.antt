-- Which numbers are those of a VLAN and an address, and the entries by VLAN and address.
use Rattle.std.specs.Prelude.{ℕ, nat_le, Bool, ◌&&◌, List, IsTrue}
use Rattle.std.specs.List.{list_all}
use Rattle.open_addressing.specs.Pairs.{unpacked, by_pair}
use Rattle.fdb_core.specs.declared.entries.Entry.{Entry}

-- whether a number has a VLAN, which are from 1 to 4094
abbrev pub is_key : ℕ → Bool
is_key n = nat_le 1 (unpacked n).0 && nat_le (unpacked n).0 4094

abbrev pub AreKeys : List (ℕ × Entry) → Type 0
AreKeys es = IsTrue (list_all (λ e. is_key e.0) es)

-- the entries by VLAN and address
abbrev pub by_address : List (ℕ × Entry) → List ((ℕ × ℕ) × Entry)
by_address es = by_pair es
