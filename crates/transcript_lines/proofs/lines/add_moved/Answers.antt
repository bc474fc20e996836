use Rattle.std.proofs.Common.{sym, subst}
use Rattle.transcript_lines.specs.declared.row.Row.{Row}
use Rattle.transcript_lines.specs.Rows.{IsBehind}
use Rattle.transcript_lines.proofs.RowLaws.{behind-at}
use Rattle.transcript_lines.proofs.lines.add_moved.Goals as goal

pub moved-requires : goal.moved-requires
moved-requires c =
    subst (λ (r : Row). IsBehind c.args.front r) (sym c.index-of-place.is) (behind-at c.args.front c.args.of.now c.loop-place.place _ c.requires.behind c.loop-place-test.true)
