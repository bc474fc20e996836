use Rattle.std.proofs.Common.{◌≡◌}
use Rattle.chip_regs.specs.Windows.{written}
use Rattle.chip_regs.proofs.Row.write.Given as goal

abbrev pub invariant-loop-i : goal.invariant-loop-i
invariant-loop-i g l = l.self-inside.bytes ≡ written l.initial.self-inside.bytes l.first l.i l.number
