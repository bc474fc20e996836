use Rattle.std.proofs.Common.{◌∙◌, ap, arith}
use Rattle.whole_texts.specs.Trials.{ending_at}
use Rattle.whole_texts.proofs.Trials.{bad_told, item_so, long_so}
use Rattle.whole_texts.proofs.trying.end_by.Goals as goal

pub returns-then-line-gt-LONGEST_LINE : goal.returns-then-line-gt-LONGEST_LINE
returns-then-line-gt-LONGEST_LINE c =
    λ s f. long_so s c.args.line.now f.going c.requires.feedless c.args.reader.now f c.bad.result c.if-line-gt-LONGEST_LINE.true c.bad.ensures

pub returns-in-Ok : goal.returns-in-Ok
returns-in-Ok c =
    λ s f.
    ap ending_at c.end_of_item.ensures
    ∙ item_so s c.args.line.now f.going c.requires.feedless c.args.reader.now f (omega (arith, c.if-line-gt-LONGEST_LINE.false)) _ _ c.in-Ok.item
    (c.in_ok-roster.ensures ∙ c.roster.ensures) c.in-Ok.ensures.read

pub returns : goal.returns
returns c =
    bad_told c.args.reader.now c.args.line.now _ c.in-Err.why c.end_of_fault.result c.requires.feedless (omega (arith, c.if-line-gt-LONGEST_LINE.false))
    (c.in_ok-roster.ensures ∙ c.roster.ensures) c.in-Err.ensures.bad c.end_of_fault.ensures
