use Rattle.std.proofs.Common.{◌≡◌, ◌-◌, arith, ap, ◌∙◌, length, take}
use Rattle.std.proofs.lemmas.List.Sums.{sum_by-le, sum_by_more_le}
use Rattle.std.specs.List.{sum_by}
use Rattle.br_model.specs.Table.Limits.{most_changes}
use Rattle.hwdom_chips.specs.Chips.{ChipState}
use Rattle.hwdom_chips.proofs.chips.Chips.pending.Goals as goal

pub overflow_add-pending : goal.overflow_add-pending
overflow_add-pending c =
    let f = λ (s : ChipState). c.args.deferred - s.chip.count in
    let xs = c.deref-chip-items.result.now in
    let so : c.loop-chip.pending ≡ sum_by f (take c.loop-chip.chip-index xs) = c.loop-chip.invariant in
    omega (
      arith,
      so,
      ap length (c.deref-chip-items.ensures.value ∙ c.self.view_is),
      c.requires.few,
      c.count.ensures,
      ap f c.chip-item.is,
      sum_by_more_le f xs c.loop-chip.chip-index c.chip-item.result c.loop-chip-test.true,
      sum_by-le f most_changes xs (λ k d within. omega (arith, c.requires.deferred)),
    )
