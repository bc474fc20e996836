use Rattle.std.proofs.Common.{◌≡◌, ◌*◌, ◌/◌, ◌%◌, ◌^◌}
use Rattle.chip_regs.proofs.Row.window.Given as goal

abbrev pub invariant-loop-i : goal.invariant-loop-i
invariant-loop-i g l = l.number ≡ l.self / 2 ^ (8 * l.first) % 2 ^ (8 * l.i)
