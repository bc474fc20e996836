use Rattle.std.proofs.Common.{◌≡◌, length}
use Rattle.whole_texts.specs.Trials.{with_first}
use Rattle.whole_texts.proofs.copying.copy_ports.Given as goal

abbrev pub invariant-loop-i : goal.invariant-loop-i
invariant-loop-i l = (l.to ≡ with_first l.from l.i) × (l.i-end ≡ length l.from.ports)
