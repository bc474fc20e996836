use Rattle.std.proofs.Common.{◌/◌, ◌^◌}
use Rattle.chip_regs.proofs.Numbers.{mask_is}
use Rattle.chip_regs.proofs.field_in.Goals as goal

pub returns : goal.returns
returns c = mask_is (c.args.window / 2 ^ c.args.at) c.args.width c.requires.width
