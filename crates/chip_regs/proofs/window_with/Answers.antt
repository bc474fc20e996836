use Rattle.std.proofs.Common.{◌/◌, ◌+◌, ◌*◌, ◌-◌, ◌%◌, ◌^◌, bit_or, bit_and, ap, ◌∙◌}
use Rattle.chip_regs.proofs.Numbers.{window-with}
use Rattle.chip_regs.proofs.window_with.Goals as goal

pub returns : goal.returns
returns c =
    ap (λ n. bit_or (bit_or (c.args.window / 2 ^ (c.args.at + c.args.width) * 2 ^ c.args.width % 2 ^ 128) n * 2 ^ c.args.at % 2 ^ 128) (bit_and c.args.window (1 * 2 ^ c.args.at % 2 ^ 128 - 1)))
    c.from.ensures
    ∙ window-with c.args.window c.args.at c.args.width c.args.number c.requires.window c.requires.at c.requires.width c.requires.number
