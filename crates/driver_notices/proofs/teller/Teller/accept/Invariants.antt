use Rattle.std.proofs.Common.{◌≡◌, ◌+◌, ◌++◌, take}
use Rattle.br_model.specs.Table.Cut.{deferred_count}
use Rattle.driver_notices.specs.Notices.{lines_of}
use Rattle.driver_notices.proofs.teller.Teller.accept.Given as goal

abbrev pub invariant-loop-change : goal.invariant-loop-change
invariant-loop-change l = record {
  lines : l.lines.items ≡ l.fn.lines.items ++ lines_of l.fn.self.edition l.step l.fn.self.count (take l.change-index l.changes);
  count : l.self.count ≡ l.fn.self.count + deferred_count l.fn.self.edition (take l.change-index l.changes);
  edition : l.self.edition ≡ l.fn.self.edition;
}
