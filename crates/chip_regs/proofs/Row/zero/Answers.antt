use Rattle.chip_regs.proofs.Numbers.{number-zeros}
use Rattle.chip_regs.proofs.Row.zero.Goals as goal

pub returns : goal.returns
returns g c = number-zeros g.row.BYTES
