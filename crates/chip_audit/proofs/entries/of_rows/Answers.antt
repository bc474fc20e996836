use Rattle.std.proofs.Common.{[], ap, ◌∙◌}
use Rattle.std.proofs.lemmas.List.{take_all}
use Rattle.chip_audit.proofs.Filling.{all-filled, filled, filled-more}
use Rattle.chip_audit.proofs.entries.of_rows.Goals as goal

pub loop-row-preserved : goal.loop-row-preserved
loop-row-preserved c = c.in_ok-put.ensures
    ∙ filled-more c.args.rows.now c.loop-row.row-index c.row-item.result c.loop-row.entries.entries c.loop-row-test.true c.row-item.is c.loop-row.invariant

pub returns : goal.returns
returns c =
    c.loop-row.invariant ∙ ap (filled []) (take_all c.loop-row.row-index c.args.rows.now c.loop-row-test.false) ∙ all-filled c.args.rows.now c.requires
