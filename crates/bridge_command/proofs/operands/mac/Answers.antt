use Rattle.std.proofs.Common.{Some, None, arith, sym, ◌∙◌}
use Rattle.bridge_command.proofs.Stations.{read_as}
use Rattle.bridge_command.proofs.operands.mac.Goals as goal

pub returns-in-Some : goal.returns-in-Some
returns-in-Some c =
    c.station.ensures ∙ read_as c.args.word.now c.as_bytes-text.result.now c.as_slice.result.now (Some c.in-Some.bytes)
    c.as_bytes-text.ensures.value (omega arith) (sym c.has_colons.ensures ∙ c.if-not-has_colons.false) (c.as_slice.ensures ∙ c.digits_of-digits.ensures) c.in-Some.ensures

pub returns-in-None : goal.returns-in-None
returns-in-None c =
    read_as c.args.word.now c.as_bytes-text.result.now c.as_slice.result.now None
    c.as_bytes-text.ensures.value (omega arith) (sym c.has_colons.ensures ∙ c.if-not-has_colons.false) (c.as_slice.ensures ∙ c.digits_of-digits.ensures) c.in-None.ensures
