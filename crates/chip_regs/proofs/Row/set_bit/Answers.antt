use Rattle.std.proofs.Common.{arith}
use Rattle.chip_regs.specs.Rows.{bit_of}
use Rattle.chip_regs.proofs.Numbers.{bytes-from}
use Rattle.chip_regs.proofs.Bits.{row-bit_set, bit-keeps}
use Rattle.chip_regs.proofs.Row.set_bit.Goals as goal

pub invariant_of-self : goal.invariant_of-self
invariant_of-self g c =
    bit-keeps g.row.BYTES c.self.inside.bytes c.args.at c.args.on c.byte_with.result c.self.invariant (omega (arith, c.self.invariant.0, c.requires)) c.byte_with.ensures

pub returns : goal.returns
returns g c =
    let bs = c.self.inside.bytes in
    row-bit_set bs c.args.self.now c.args.at (bit_of c.args.on) c.byte_with.result (bytes-from bs c.self.invariant.1) c.self.view_is (omega (arith, c.self.invariant.0, c.requires)) c.byte_with.ensures
