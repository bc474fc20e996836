use Rattle.std.proofs.Common.{◌/◌, ◌%◌, eqb, get_or, ap, ◌∙◌, arith}
use Rattle.std.proofs.lemmas.Nat.Bits.{shr_and_one}
use Rattle.chip_regs.proofs.Numbers.{bytes-from}
use Rattle.chip_regs.proofs.Bits.{bit-in_byte}
use Rattle.chip_regs.proofs.Row.bit.Goals as goal

pub returns : goal.returns
returns g c =
    let bs = c.self.inside.bytes in
    ap (λ b. eqb b 1)
    (shr_and_one (get_or bs (c.args.at / 8) 0) (c.args.at % 8)
    ∙ bit-in_byte bs c.args.self.now c.args.at (bytes-from bs c.self.invariant.1) c.self.view_is (omega (arith, c.self.invariant.0, c.requires)))
