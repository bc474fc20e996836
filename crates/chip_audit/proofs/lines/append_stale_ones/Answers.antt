use Rattle.std.proofs.Common.{string_bytes}
use Rattle.chip_audit.specs.Lines.{stale_line}
use Rattle.chip_audit.proofs.LinesMore.{line-more}
use Rattle.chip_audit.proofs.lines.append_stale_ones.Goals as goal

pub loop-row-preserved : goal.loop-row-preserved
loop-row-preserved c =
    line-more (stale_line c.args.roster.now.ports) c.args.rows.now c.loop-row.row-index c.row-item.result (string_bytes c.args.to.now) (string_bytes c.loop-row.to) (string_bytes c.append_stale.new.to)
    c.loop-row-test.true c.row-item.is c.loop-row.invariant c.in_ok-append_stale.ensures
