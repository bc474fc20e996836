use Rattle.std.proofs.Common.{◌≡◌, ◌-◌, take}
use Rattle.std.specs.List.{sum_by}
use Rattle.check_world.specs.Cuts.{CutState}
use Rattle.check_world.proofs.cuts.Cuts.pending.Given as goal

abbrev pub invariant-loop-cut : goal.invariant-loop-cut
invariant-loop-cut l = l.pending ≡ sum_by (λ (c : CutState). l.deferred - c.chip.count) (take l.cut-index l.cut-items)
