use Rattle.std.proofs.Common.{sym, ap, ◌∙◌}
use Rattle.chip_regs.specs.Rows.{with_field, bit_of}
use Rattle.chip_regs.proofs.Bits.{bit-set, bit-cleared}
use Rattle.chip_regs.proofs.byte_with.Goals as goal

pub returns-then-on : goal.returns-then-on
returns-then-on c = bit-set c.args.byte c.args.at c.requires ∙ ap (λ b. with_field c.args.byte c.args.at 1 (bit_of b)) (sym c.if-on.true)

pub returns-else-on : goal.returns-else-on
returns-else-on c = bit-cleared c.args.byte c.args.at c.requires c.ranges.byte.fits ∙ ap (λ b. with_field c.args.byte c.args.at 1 (bit_of b)) (sym c.if-on.false)
