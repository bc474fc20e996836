use Rattle.std.proofs.Common.{◌≡◌, ◌-◌, ◌≤◌, [], true}
use Rattle.run_io.specs.Reading.{Reads, holds_next}
use Rattle.run_io.proofs.lines.LineReader.find_line.Given as goal

abbrev pub invariant-loop-held : goal.invariant-loop-held
invariant-loop-held g l = record {
  reads : Reads l.fn.self l.self (g.S.Source.left l.fn.src) (g.S.Source.left l.src) [];
  fault : l.self.fault ≡ l.fn.self.fault;
  unread : holds_next l.fn.self ≡ true → (l.self ≡ l.fn.self) × (l.src ≡ l.fn.src);
  later : g.S.Source.faults l.fn.src ≤ g.S.Source.faults l.src;
}

abbrev pub decreases-loop-held : goal.decreases-loop-held
decreases-loop-held g l = l.self.limit - l.self.taken
