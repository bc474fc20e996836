use Rattle.std.proofs.Common.{ap, ◌∙◌}
use Rattle.lists.specs.Padded.{padded}
use Rattle.lists.proofs.Filling.{padded-none}
use Rattle.chip_regs.proofs.Bank.make.Goals as goal

pub returns : goal.returns
returns g c = ap (padded 0 g.row.ROWS) c.in_ok-rows.ensures.items ∙ padded-none 0 g.row.ROWS
