use Rattle.std.proofs.Common.{◌≡◌, ◌-◌, ◌≤◌, []}
use Rattle.run_io.specs.Reading.{Reads}
use Rattle.run_io.proofs.lines.LineReader.find_piece.Given as goal

abbrev pub invariant-loop-alloc : goal.invariant-loop-alloc
invariant-loop-alloc g l = record {
  reads : Reads l.fn.self l.self (g.S.Source.left l.fn.src) (g.S.Source.left l.src) [];
  fault : l.self.fault ≡ l.fn.self.fault;
  later : g.S.Source.faults l.fn.src ≤ g.S.Source.faults l.src;
}

abbrev pub decreases-loop-alloc : goal.decreases-loop-alloc
decreases-loop-alloc g l = l.self.limit - l.self.taken
