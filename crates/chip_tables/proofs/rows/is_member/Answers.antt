use Rattle.std.proofs.Common.{sym, ap, ◌∙◌}
use Rattle.chip_tables.specs.Rows.{is_on}
use Rattle.chip_tables.proofs.Switched.{port-on}
use Rattle.chip_tables.proofs.rows.is_member.Goals as goal

pub returns : goal.returns
returns c = c.bit.ensures ∙ ap (is_on c.args.row.now) (c.from.ensures ∙ c.number.ensures.value) ∙ sym (port-on c.args.row.now c.args.port c.number.ensures.below)
