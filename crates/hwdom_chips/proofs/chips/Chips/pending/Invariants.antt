use Rattle.std.proofs.Common.{◌≡◌, ◌-◌, take}
use Rattle.std.specs.List.{sum_by}
use Rattle.hwdom_chips.specs.Chips.{ChipState}
use Rattle.hwdom_chips.proofs.chips.Chips.pending.Given as goal

abbrev pub invariant-loop-chip : goal.invariant-loop-chip
invariant-loop-chip l = l.pending ≡ sum_by (λ (c : ChipState). l.deferred - c.chip.count) (take l.chip-index l.chip-items)
