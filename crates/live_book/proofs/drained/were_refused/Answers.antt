use Rattle.std.proofs.Common.{◌≡◌, true, false, sym, ◌∙◌, rules}
use Rattle.transcript_lines.specs.Rows.{expand}
use Rattle.live_book.specs.Reading.{was_refused}
use Rattle.live_book.proofs.Rows.{all_past, fails, passes}
use Rattle.live_book.proofs.drained.were_refused.Goals as goal

pub returns-then-not-was_refused : goal.returns-then-not-was_refused
returns-then-not-was_refused c = λ arena.
    let is : c.was_refused.result ≡ false = search rules in
    fails (was_refused c.args.steps.now (expand arena c.args.rows.now)) c.args.doms.now c.loop-dom.dom-index c.dom-item.result c.loop-dom-test.true c.dom-item.is (c.loop-dom.invariant arena)
    (sym (c.was_refused.ensures arena) ∙ is)

pub loop-dom-preserved : goal.loop-dom-preserved
loop-dom-preserved c = λ arena.
    let is : c.was_refused.result ≡ true = search rules in
    passes (was_refused c.args.steps.now (expand arena c.args.rows.now)) c.args.doms.now c.loop-dom.dom-index c.dom-item.result c.loop-dom-test.true c.dom-item.is (c.loop-dom.invariant arena)
    (sym (c.was_refused.ensures arena) ∙ is)

pub returns : goal.returns
returns c = λ arena. all_past (was_refused c.args.steps.now (expand arena c.args.rows.now)) c.args.doms.now c.loop-dom.dom-index c.loop-dom-test.false (c.loop-dom.invariant arena)
