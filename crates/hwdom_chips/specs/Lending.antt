-- How what a caller writes to a chip comes back.
use Rattle.std.specs.Prelude.{ℕ, List, slice_set}
use Rattle.std.specs.Borrow.{Lends, MutBor, Fml}
use Rattle.hwdom_chips.specs.Chips.{ChipState}
use Rattle.hwdom_chips.specs.contracts.chips.Chips.{the_row as chips_row}
use Rattle.hwdom_chips.specs.contracts.chip.Chip.{the_row as chip_row}

-- The chips end with the last value written in the place.
abbrev pub LendsChip : MutBor (List ChipState) → ℕ → MutBor ChipState → Fml
LendsChip chips place r = Lends chips_row chip_row chips r (slice_set chips.now place)
