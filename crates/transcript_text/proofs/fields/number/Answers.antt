use Rattle.std.proofs.Common.{◌≡◌, ◌≢◌, ◌<◌, get_or, length, ◌∙◌, ap, arith}
use Rattle.transcript_text.proofs.Numerals.{number_parsed, not_equal}
use Rattle.transcript_text.proofs.fields.number.Goals as goal
use Rattle.transcript_text.proofs.fields.number.Goals.{then-digits-gt1, else-digits-gt1}

pub returns : goal.returns
returns c =
    let w = c.args.word.now in
    let same : c.as_bytes-digits.result.now ≡ w = c.as_bytes-digits.ensures.value in
    let first : get_or c.as_bytes-digits.result.now 0 0 ≡ get_or w 0 0 = ap (λ ds. get_or ds 0 0) same in
    let long : length c.as_bytes-digits.result.now ≡ length w = ap length same in
    let plain : get_or w 0 0 ≢ 43 = λ h. c.if-digits-eq43.false (first ∙ h) in
    let lead : 1 < length w → get_or w 0 0 ≢ 48 =
    elim c.if-digits-gt1.branch [
      | then-digits-gt1 v ↦ λ more h. not_equal c.if-digits-gt1.value (get_or c.as_bytes-digits.result.now 0 0) 48 v.value-is c.if-digits-eq48.false (first ∙ h)
      | else-digits-gt1 v ↦ λ more h. absurd (omega arith)
    ] in
    c.ok.ensures.value ∙ number_parsed w c.parse.result c.parse.ensures.value.0 plain lead
