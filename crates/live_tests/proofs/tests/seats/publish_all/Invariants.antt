use Rattle.std.proofs.Common.{◌≡◌, ◌≤◌, true, length}
use Rattle.br_model.specs.Table.Limits.{all_fit}
use Rattle.br_model.specs.Table.Table.{start}
use Rattle.table_publish.specs.Board.{all_of}
use Rattle.live_tests.proofs.tests.seats.publish_all.Given as goal

abbrev pub invariant-loop-i : goal.invariant-loop-i
invariant-loop-i g l = (l.board.board ≡ l.initial.board.board) × (all_fit start (all_of l.board) ≡ true) × (length (all_of l.board) ≤ l.i)
