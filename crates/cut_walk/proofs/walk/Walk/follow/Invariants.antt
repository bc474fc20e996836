use Rattle.std.proofs.Common.{◌≡◌, take}
use Rattle.cut_walk.specs.Walked.{IsWalk}
use Rattle.cut_walk.proofs.walk.Walk.follow.Given as goal

abbrev pub invariant-loop-place : goal.invariant-loop-place
invariant-loop-place l = (l.self.count ≡ l.fn.self.count) × IsWalk l.edition (take l.place l.history) l.self
