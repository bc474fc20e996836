use Rattle.std.proofs.Common.{sym, ap, ◌∙◌}
use Rattle.live_book.specs.Reading.{is_end_published, may_change}
use Rattle.live_book.proofs.Rows.{row_published}
use Rattle.live_book.proofs.published.is_published.Goals as goal

pub returns : goal.returns
returns c = λ arena.
    let may = may_change c.args.steps.now c.args.first c.args.drain in
    c.is_end_published.ensures ∙ ap (is_end_published may) c.answer.ensures ∙ sym (row_published may arena c.args.row.now)
