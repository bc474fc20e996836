use Rattle.std.proofs.Common.{◌≡◌, ◌-◌, ◌≤◌, length, take}
use Rattle.std.specs.Io.KnownBytes.{Consumes}
use Rattle.run_io.proofs.whole.take_all.Given as goal

abbrev pub invariant-loop-used : goal.invariant-loop-used
invariant-loop-used g l = record {
  limit : l.most ≡ l.fn.limit;
  within : l.used ≤ length l.bytes.items;
  most : l.used ≤ l.most;
  consumed : Consumes (g.S.Source.left l.fn.source) (g.S.Source.left l.source) (take l.used l.bytes.items);
  later : g.S.Source.faults l.fn.source ≤ g.S.Source.faults l.source;
}

abbrev pub decreases-loop-used : goal.decreases-loop-used
decreases-loop-used g l = l.most - l.used
