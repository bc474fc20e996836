use Rattle.std.proofs.Common.{◌≡◌, drop, replicate}
use Rattle.left_right.specs.Sides.{view as place_view}
use Rattle.table_publish.specs.Board.{newcomer}
use Rattle.table_publish.proofs.board.fill.Given as goal

abbrev pub invariant-loop : goal.invariant-loop
invariant-loop l = record {
  shown : l.writer.desk.shown.value ≡ l.initial.writer.desk.shown.value;
  pending : drop l.writer.behind l.writer.log.items ≡ drop l.initial.writer.behind l.initial.writer.log.items;
  same : place_view l.writer.desk.place ≡ place_view l.initial.writer.desk.place;
  seats : l.row.items ≡ replicate l.counter (newcomer (record { book = l.seen.book; domains = l.domains }));
}
