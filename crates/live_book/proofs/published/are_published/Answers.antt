use Rattle.std.proofs.Common.{◌≡◌, true, false, sym, ◌∙◌, rules}
use Rattle.live_book.specs.Reading.{is_published, may_change}
use Rattle.live_book.proofs.Rows.{row_fails, row_passes, rows_past}
use Rattle.live_book.proofs.published.are_published.Goals as goal

pub returns-then-not-is_published : goal.returns-then-not-is_published
returns-then-not-is_published c = λ arena.
    let is : c.is_published.result ≡ false = search rules in
    row_fails (is_published (may_change c.args.steps.now c.args.first c.args.drain)) arena c.args.rows.now c.loop-row.row-index c.row-item.result c.loop-row-test.true c.row-item.is
    (c.loop-row.invariant arena) (sym (c.is_published.ensures arena) ∙ is)

pub loop-row-preserved : goal.loop-row-preserved
loop-row-preserved c = λ arena.
    let is : c.is_published.result ≡ true = search rules in
    row_passes (is_published (may_change c.args.steps.now c.args.first c.args.drain)) arena c.args.rows.now c.loop-row.row-index c.row-item.result c.loop-row-test.true c.row-item.is
    (c.loop-row.invariant arena) (sym (c.is_published.ensures arena) ∙ is)

pub returns : goal.returns
returns c = λ arena.
    rows_past (is_published (may_change c.args.steps.now c.args.first c.args.drain)) arena c.args.rows.now c.loop-row.row-index c.loop-row-test.false (c.loop-row.invariant arena)
