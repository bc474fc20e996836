use Rattle.std.proofs.Common.{◌-◌, length, sym, ◌∙◌, arith}
use Rattle.live_book.proofs.Openings.{ends_last}
use Rattle.live_book.proofs.parts.ends_with_publish.Goals as goal

pub returns-then-count-gt0 : goal.returns-then-count-gt0
returns-then-count-gt0 c =
    c.is_publish.ensures ∙ sym (ends_last c.args.steps.now (length c.args.steps.now - 1) c.index-steps-count.result (omega arith) c.index-steps-count.is)
