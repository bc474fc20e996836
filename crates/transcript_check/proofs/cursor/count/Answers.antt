use Rattle.std.proofs.Common.{◌==◌, ◌∙◌, ap, arith}
use Rattle.std.proofs.lemmas.List.{take_all}
use Rattle.std.specs.List.{count_by}
use Rattle.transcript_check.proofs.Cutting.{feeds_are}
use Rattle.transcript_check.proofs.cursor.count.Goals as goal

pub returns-clause-count : goal.returns-clause-count
returns-clause-count c =
    c.loop-byte.invariant ∙ ap (count_by (λ b. b == 10)) (take_all c.loop-byte.byte-index c.args.lines.now (omega arith)) ∙ feeds_are c.args.lines.now c.requires
