use Rattle.std.proofs.Common.{[], ◌∷◌, ◌∙◌, arith}
use Rattle.transcript_text.proofs.Starts.{stays_behind}
use Rattle.transcript_text.proofs.frames.put_start.Goals as goal

pub returns-clause-same : goal.returns-clause-same
returns-clause-same c =
    stays_behind _ _ c.args.start.now _ _ 32 c.copy_before.ensures.written c.copy_before.ensures.from (omega arith)
    ∙ stays_behind _ _ _ _ _ 32 c.put_number-number.ensures.written c.put_number-number.ensures.start (omega arith)
    ∙ stays_behind c.args.text.now c.put_before-space.new.bytes (32 ∷ []) _ _ 32 c.put_before-space.ensures.written c.put_before-space.ensures.from (omega arith)
