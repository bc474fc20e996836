use Rattle.std.proofs.Common.{◌+◌, ap, ◌∙◌, arith}
use Rattle.br_model.specs.Forward.Targets.{isolated}
use Rattle.chip_tables.specs.Rows.{is_on}
use Rattle.chip_tables.proofs.Switched.{flag-on}
use Rattle.chip_tables.proofs.rows.is_isolated.Goals as goal

pub returns : goal.returns
returns c = c.bit.ensures ∙ ap (λ n. is_on c.args.row.now (4 + n)) c.from.ensures ∙ flag-on c.args.row.now isolated (omega arith)
