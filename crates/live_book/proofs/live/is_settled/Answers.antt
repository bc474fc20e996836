use Rattle.std.proofs.Common.{◌&&◌, sym, ap, ◌∙◌}
use Rattle.std.specs.List.{list_all}
use Rattle.br_model.specs.Program.LiveRun.{ends_with_publish}
use Rattle.transcript_lines.specs.Rows.{expand}
use Rattle.live_book.specs.Ends.{is_idle}
use Rattle.live_book.specs.Reading.{was_refused}
use Rattle.live_book.proofs.live.is_settled.Goals as goal

pub returns-then-are_published : goal.returns-then-are_published
returns-then-are_published c = λ arena.
    c.is_finished.ensures arena
    ∙ sym (ap (λ b. b && (ends_with_publish c.args.steps.now && (is_idle c.args.left.now && list_all (was_refused c.args.steps.now (expand arena c.args.rows.now)) c.args.left.now.reporting)))
    (sym (c.are_published.ensures arena) ∙ c.if-are_published.true))

pub returns-else-are_published : goal.returns-else-are_published
returns-else-are_published c = λ arena.
    c.if-are_published.false
    ∙ sym (ap (λ b. b && (ends_with_publish c.args.steps.now && (is_idle c.args.left.now && list_all (was_refused c.args.steps.now (expand arena c.args.rows.now)) c.args.left.now.reporting)))
    (sym (c.are_published.ensures arena) ∙ c.if-are_published.false))
