use Rattle.std.proofs.Common.{◌≡◌, drop}
use Rattle.check_world.specs.Cuts.{state_in}
use Rattle.check_world.proofs.cuts.Cuts.find.Given as goal

abbrev pub invariant-loop-place : goal.invariant-loop-place
invariant-loop-place l = state_in (drop l.place l.self) l.d ≡ state_in l.self l.d
