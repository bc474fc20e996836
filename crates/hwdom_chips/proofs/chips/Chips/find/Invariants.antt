use Rattle.std.proofs.Common.{◌≡◌, drop}
use Rattle.hwdom_chips.specs.Chips.{state_in}
use Rattle.hwdom_chips.proofs.chips.Chips.find.Given as goal

abbrev pub invariant-loop-place : goal.invariant-loop-place
invariant-loop-place l = state_in (drop l.place l.self) l.d ≡ state_in l.self l.d
