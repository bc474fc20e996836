use Rattle.std.proofs.Common.{◌≡◌, take}
use Rattle.check_world.specs.Cuts.{IsCut}
use Rattle.check_world.proofs.cut.Cut.follow.Given as goal

abbrev pub invariant-loop-place : goal.invariant-loop-place
invariant-loop-place l = (l.self.chip ≡ l.fn.self.chip) × IsCut l.edition (take l.place l.history) l.self
