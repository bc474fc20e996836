use Rattle.std.proofs.Common.{◌≡◌, ◌++◌, drop}
use Rattle.fdb_core.specs.Places.{over}
use Rattle.fdb_core.proofs.ages.Ages.over.Given as goal

abbrev pub invariant-loop-i : goal.invariant-loop-i
invariant-loop-i l = over l.entries.entries l.now l.hold l.self.places.items ≡ l.numbers.items ++ over l.entries.entries l.now l.hold (drop l.i l.self.places.items)
