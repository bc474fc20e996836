use Rattle.std.proofs.Common.{◌≡◌, ℕ, ◌<◌, ◌≤◌, get_or, bit_and, length, w64}
use Rattle.std.specs.Int.{bit_not}
use Rattle.port_sets.proofs.PortSet.minus.Given as goal

abbrev pub invariant-loop-i : goal.invariant-loop-i
invariant-loop-i g l = record {
  done : (j : ℕ) → j < l.i → get_or l.words j 0 ≡ bit_and (get_or l.initial.words j 0) (bit_not w64 (get_or l.other-inside.words j 0));
  left : (j : ℕ) → l.i ≤ j → get_or l.words j 0 ≡ get_or l.initial.words j 0;
  sized : length l.words ≡ g.row.W;
}
