use Rattle.std.proofs.Common.{sym, subst, arith}
use Rattle.std.specs.Str.{IsUtf8}
use Rattle.transcript_text.proofs.Hex.{end_utf8}
use Rattle.transcript_text.proofs.frames.FrameLine.make.Goals as goal

pub invariant_of-self-2 : goal.invariant_of-self-2
invariant_of-self-2 c = λ made. (c.in_ok-self-inside.ensures.room, subst IsUtf8 (sym c.in_ok-self-inside.ensures.text) (end_utf8 c.args.bytes.now (λ i. omega (arith, c.type_inv.bytes i))))
