use Rattle.std.proofs.Common.{sym, ap, ◌∙◌}
use Rattle.live_book.specs.Reading.{refused_by, reports}
use Rattle.live_book.proofs.Rows.{row_after}
use Rattle.live_book.proofs.drained.after_row.Goals as goal

pub returns : goal.returns
returns c = λ arena.
    let reported = reports c.args.steps.now c.args.dom in
    c.refused_by.ensures ∙ ap (refused_by reported c.args.before) c.answer.ensures ∙ sym (row_after reported c.args.before arena c.args.row.now)
