use Rattle.std.proofs.Common.{string_bytes, subst, sym}
use Rattle.scenario_reader.specs.declared.reader.Last.{Last}
use Rattle.capture_runner.specs.Living.{AnsweredLive}
use Rattle.capture_runner.proofs.Living.{lived, told_bad}
use Rattle.capture_runner.proofs.live.answer.Goals as goal

pub live_text-requires-clause-by_line : goal.live_text-requires-clause-by_line
live_text-requires-clause-by_line g c = λ lives bounds. c.in_ok-whole.ensures.reads.says.by_line

pub live_text-requires-clause-lines : goal.live_text-requires-clause-lines
live_text-requires-clause-lines g c = λ lives bounds. c.in_ok-whole.ensures.reads.lines (sym c.in-Ended.ensures)

pub returns-in-Ended-clause-yields : goal.returns-in-Ended-clause-yields
returns-in-Ended-clause-yields g c =
    let text = string_bytes c.in_ok-live_text-in-Ended.field-0 in
    subst (λ (last : Last). AnsweredLive (g.S.Source.left c.args.source.now) (g.S.Source.left c.read_live.new.source) text last) (sym c.in-Ended.is)
    (lived _ _ c.in_ok-whole.whole c.in_ok-whole.ensures.reads text (sym c.in-Ended.ensures) c.in_ok-live_text-in-Ended.ensures)

pub returns-clause-yields : goal.returns-clause-yields
returns-clause-yields g c =
    told_bad _ _ c.in_ok-whole.whole c.in_ok-whole.ensures.reads (string_bytes c.in_ok-bad_text-in-Bad.field-0) c.in-Bad.line c.in-Bad.why (sym c.in-Bad.ensures)
    c.in_ok-bad_text-in-Bad.ensures
