use Rattle.std.proofs.Common.{◌≡◌, ◌-◌, arith, ap, ◌∙◌, length, take}
use Rattle.std.proofs.lemmas.List.Sums.{sum_by-le, sum_by_more_le}
use Rattle.std.specs.List.{sum_by}
use Rattle.br_model.specs.Table.Limits.{most_changes}
use Rattle.check_world.specs.Cuts.{CutState}
use Rattle.check_world.proofs.cuts.Cuts.pending.Goals as goal

pub overflow_add-pending : goal.overflow_add-pending
overflow_add-pending c =
    let f = λ (s : CutState). c.args.deferred - s.chip.count in
    let xs = c.deref-cut-items.result.now in
    let so : c.loop-cut.pending ≡ sum_by f (take c.loop-cut.cut-index xs) = c.loop-cut.invariant in
    omega (
      arith,
      so,
      ap length (c.deref-cut-items.ensures.value ∙ c.self.view_is),
      c.requires.few,
      c.count.ensures,
      ap f c.cut-item.is,
      sum_by_more_le f xs c.loop-cut.cut-index c.cut-item.result c.loop-cut-test.true,
      sum_by-le f most_changes xs (λ k d within. omega (arith, c.requires.deferred)),
    )
