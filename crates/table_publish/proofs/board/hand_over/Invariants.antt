use Rattle.std.proofs.Common.{◌≡◌, drop}
use Rattle.table_publish.proofs.board.hand_over.Given as goal

abbrev pub invariant-loop : goal.invariant-loop
invariant-loop g l = record {
  desk : l.writer.desk ≡ l.initial.writer.desk;
  pending : drop l.writer.behind l.writer.log.items ≡ drop l.initial.writer.behind l.initial.writer.log.items;
  same : l.left ≡ l.fn.operation;
}
