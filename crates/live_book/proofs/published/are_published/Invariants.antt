use Rattle.std.proofs.Common.{◌≡◌, List, ℕ, drop}
use Rattle.std.specs.List.{list_all}
use Rattle.transcript_lines.specs.Rows.{expand}
use Rattle.live_book.specs.Reading.{is_published, may_change}
use Rattle.live_book.proofs.published.are_published.Given as goal

abbrev pub invariant-loop-row : goal.invariant-loop-row
invariant-loop-row l =
    (arena : List ℕ) → list_all (is_published (may_change l.steps l.first l.drain)) (expand arena (drop l.row-index l.rows))
    ≡ list_all (is_published (may_change l.steps l.first l.drain)) (expand arena l.rows)
