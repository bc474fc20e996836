use Rattle.std.proofs.Common.{[], ◌∷◌, ◌++◌, length, ap, arith, ◌∙◌}
use Rattle.transcript_text.proofs.Starts.{behind_room}
use Rattle.transcript_text.proofs.frames.end_text.Goals as goal
use Rattle.br_model.proofs.Data.Hex.{length-hex_of}

pub returns-clause-text : goal.returns-clause-text
returns-clause-text c =
    let digits = c.write_hex.ensures in
    behind_room c.as_mut_slice.result.now c.write_hex.new.digits _ c.push.new.self.items c.resize.new.self.len _ c.in_ok-push.ensures.items
    (omega (arith, c.as_mut_slice.ensures.len, c.in_ok-resize.ensures.len, c.in-Some.ensures)) (omega arith)
    (omega (arith, ap length digits, length-hex_of c.args.bytes.now, c.in_ok-resize.ensures.len, c.in-Some.ensures))
    ∙ ap (λ l. l ++ 10 ∷ []) digits
