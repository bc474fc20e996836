use Rattle.std.proofs.Common.{◌&&◌, sym, ap, ◌∙◌}
use Rattle.std.specs.List.{list_all}
use Rattle.transcript_lines.specs.Rows.{expand}
use Rattle.live_book.specs.Reading.{was_refused}
use Rattle.live_book.proofs.drained.is_drained.Goals as goal

pub returns-then-is_idle : goal.returns-then-is_idle
returns-then-is_idle c = λ arena.
    c.were_refused.ensures arena
    ∙ ap (list_all (was_refused c.args.steps.now (expand arena c.args.rows.now))) c.as_slice.ensures
    ∙ sym (ap (λ b. b && list_all (was_refused c.args.steps.now (expand arena c.args.rows.now)) c.args.left.now.reporting) (sym c.is_idle.ensures ∙ c.if-is_idle.true))
