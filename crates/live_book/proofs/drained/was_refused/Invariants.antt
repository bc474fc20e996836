use Rattle.std.proofs.Common.{◌≡◌, List, ℕ, drop}
use Rattle.std.specs.List.{fold}
use Rattle.transcript_lines.specs.Rows.{expand}
use Rattle.live_book.specs.Reading.{refused_after, reports, was_refused}
use Rattle.live_book.proofs.drained.was_refused.Given as goal

abbrev pub invariant-loop-row : goal.invariant-loop-row
invariant-loop-row l =
    (arena : List ℕ) → fold (refused_after (reports l.steps l.dom)) l.refused (expand arena (drop l.row-index l.rows)) ≡ was_refused l.steps (expand arena l.rows) l.dom
