use Rattle.std.proofs.Common.{◌≡◌, drop}
use Rattle.std.specs.List.{AllWithin}
use Rattle.hwdom_chips.specs.Chips.{IsChip, chips_of}
use Rattle.hwdom_chips.proofs.chips.Chips.follow.Given as goal

abbrev pub invariant-loop-place : goal.invariant-loop-place
invariant-loop-place l =
    (chips_of l.self-inside.chips.items ≡ chips_of l.initial.self-inside.chips.items)
    × (drop l.place l.self-inside.chips.items ≡ drop l.place l.initial.self-inside.chips.items)
    × AllWithin (IsChip l.domains l.history) l.self-inside.chips.items 0 l.place
