-- What holds of the fields of a board and of a seat.
use Rattle.std.specs.Prelude.{◌≡◌, ◌≤◌, ◌++◌, [], length, drop, IsSome, IfSome}
use Rattle.left_right.specs.Sides.{view as place_view}
use Rattle.br_model.specs.Table.Limits.{most_changes, AreWithin}
use Rattle.table_publish.specs.Object.{changes_of, AllFull}
use Rattle.table_publish.specs.Law.{head_of}
use Rattle.table_publish.specs.Content.{IsTable}
use Rattle.table_publish.specs.Rule.{Knows}
use Rattle.table_publish.specs.declared.board.Board.TheInside.{Inside}
use Rattle.table_publish.specs.declared.seat.Seat.TheInside as seats

pub record IsShelved (b : Inside) : Type 0 where
  pub word : b.word ≡ head_of b.seen.book
  pub batches : b.batches ≡ length b.seen.log
  pub len : b.len ≡ length (changes_of b.seen.log)
  pub shown : b.writer.desk.shown.value.seen ≡ b.seen
  pub table : IsTable b.writer.desk.shown.value
  pub idle : drop b.writer.behind b.writer.log.items ≡ []
  pub named : Knows (place_view b.writer.desk.place) b.seen.book
  pub fit : AreWithin (changes_of b.seen.log ++ b.pending.list)
  pub room : most_changes ≤ b.pending.room

pub record IsSeated (s : seats.Inside) : Type 0 where
  pub there : IsSome s.reader
  pub knows : IfSome s.reader (λ r. Knows (place_view r.place) s.seen.book)
  pub batches : s.batches ≡ length s.seen.log
  pub full : AllFull s.seen.log
