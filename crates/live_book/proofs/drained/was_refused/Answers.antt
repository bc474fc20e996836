use Rattle.std.proofs.Common.{◌+◌, drop, sym, ap, ◌∙◌}
use Rattle.std.specs.List.{fold}
use Rattle.transcript_lines.specs.Rows.{expand}
use Rattle.live_book.specs.Reading.{refused_after, reports}
use Rattle.live_book.proofs.Rows.{fold_at_row, fold_past}
use Rattle.live_book.proofs.drained.was_refused.Goals as goal

pub loop-row-preserved : goal.loop-row-preserved
loop-row-preserved c = λ arena.
    ap (λ b. fold (refused_after (reports c.args.steps.now c.args.dom)) b (expand arena (drop (c.loop-row.row-index + 1) c.args.rows.now))) (c.after_row-refused.ensures arena)
    ∙ sym (fold_at_row arena c.args.rows.now c.loop-row.row-index c.row-item.result c.loop-row-test.true c.row-item.is (refused_after (reports c.args.steps.now c.args.dom)) c.loop-row.refused)
    ∙ c.loop-row.invariant arena

pub returns : goal.returns
returns c = λ arena.
    sym (fold_past (refused_after (reports c.args.steps.now c.args.dom)) c.loop-row.refused arena c.args.rows.now c.loop-row.row-index c.loop-row-test.false)
    ∙ c.loop-row.invariant arena
