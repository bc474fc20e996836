use Rattle.std.proofs.Common.{◌≡◌, ℕ, ◌<◌, get_or}
use Rattle.port_sets.specs.Words.{AreWords}
use Rattle.port_sets.proofs.PortSet.take_first.Given as goal

abbrev pub invariant-loop-i : goal.invariant-loop-i
invariant-loop-i g l = record {
  none : (j : ℕ) → j < l.i → get_or l.self-inside.words j 0 ≡ 0;
  fit : AreWords g.row.W l.self-inside.words;
  kept : l.self-inside.words ≡ l.initial.self-inside.words;
}
