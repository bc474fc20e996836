-- Address rows as the cells of a map from VLANs and addresses, in whose order the numbers of their keys are.
use Rattle.std.specs.Prelude.{ℕ, ◌+◌, ◌*◌, ◌/◌, ◌%◌, ◌^◌, ◌==◌, ◌&&◌, ◌||◌, nat_le, IsTrue, List, map}
use Rattle.std.specs.declared.option.Option.{Option}
use Rattle.std.specs.declared.option.Option.TheVariants.{None, Some}
use Rattle.open_addressing.specs.Zipped.{cell_of}
use Rattle.open_addressing.specs.Pairs.{unpacked}
use Rattle.chip_tables.specs.declared.rows.AddressRow.{AddressRow}
use Rattle.chip_tables.specs.Rows.{key_of, address_of, extern_if}

-- the VLAN above the 48 bits of the address, of a key as its row has it
unfoldable pub ordered : ℕ → ℕ
ordered key = key % 4096 * 2 ^ 48 + key / 4096

abbrev pub address_cell : ℕ → Option (ℕ × AddressRow)
address_cell row = cell_of (ordered (key_of row)) (address_of row)

abbrev pub address_cells : List ℕ → List (Option (ℕ × AddressRow))
address_cells rows = map address_cell rows

-- a row isn't used, or its VLAN is from 1 to 4094
abbrev pub IsKept : ℕ → Type 0
IsKept row = IsTrue (key_of row == 0 || (nat_le 1 (key_of row % 4096) && nat_le (key_of row % 4096) 4094))

-- the VLAN and the address in a cell
abbrev pub place_in : Option (ℕ × AddressRow) → Option (ℕ × ℕ)
place_in None = None
place_in (Some e) = Some (unpacked e.0)

abbrev pub places_of : List (Option (ℕ × AddressRow)) → List (Option (ℕ × ℕ))
places_of cells = map place_in cells

-- the entry in a cell, if a chip learned it
abbrev pub extern_in : Option (ℕ × AddressRow) → Option ((ℕ × ℕ) × AddressRow)
extern_in None = None
extern_in (Some e) = extern_if (unpacked e.0) (Some e.1)
