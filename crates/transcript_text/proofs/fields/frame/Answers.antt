use Rattle.std.proofs.Common.{◌≢◌, ◌∙◌, sym, ap, Some, length}
use Rattle.transcript_text.proofs.HexWords.{frame_decoded}
use Rattle.transcript_text.proofs.Numerals.{not_equal}
use Rattle.transcript_text.proofs.fields.frame.Goals as goal

pub returns-in-Ok : goal.returns-in-Ok
returns-in-Ok c =
    let digits = c.as_bytes-digits.result.now in
    let some : length digits ≢ 0 = not_equal c.is_empty.result (length digits) 0 c.is_empty.ensures c.if-is_empty.false in
    ap Some c.of.ensures ∙ frame_decoded digits c.args.word.now c.in-Ok.bytes.items c.as_bytes-digits.ensures.value some (sym c.are_lower.ensures ∙ c.if-not-are_lower.false) c.in-Ok.ensures.ok
