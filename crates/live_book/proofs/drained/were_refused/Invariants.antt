use Rattle.std.proofs.Common.{◌≡◌, List, ℕ, drop}
use Rattle.std.specs.List.{list_all}
use Rattle.transcript_lines.specs.Rows.{expand}
use Rattle.live_book.specs.Reading.{was_refused}
use Rattle.live_book.proofs.drained.were_refused.Given as goal

abbrev pub invariant-loop-dom : goal.invariant-loop-dom
invariant-loop-dom l =
    (arena : List ℕ) → list_all (was_refused l.steps (expand arena l.rows)) (drop l.dom-index l.doms) ≡ list_all (was_refused l.steps (expand arena l.rows)) l.doms
