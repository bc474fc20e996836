use Rattle.std.proofs.Common.{◌&&◌, sym, ap, ◌∙◌}
use Rattle.std.specs.List.{list_all}
use Rattle.transcript_lines.specs.Rows.{expand}
use Rattle.live_book.specs.Ends.{is_idle}
use Rattle.live_book.specs.Reading.{was_refused}
use Rattle.live_book.proofs.live.is_finished.Goals as goal

pub returns-then-ends_with_publish : goal.returns-then-ends_with_publish
returns-then-ends_with_publish c = λ arena.
    c.is_drained.ensures arena
    ∙ sym (ap (λ b. b && (is_idle c.args.left.now && list_all (was_refused c.args.steps.now (expand arena c.args.rows.now)) c.args.left.now.reporting)) (sym c.ends_with_publish.ensures
    ∙ c.if-ends_with_publish.true))
