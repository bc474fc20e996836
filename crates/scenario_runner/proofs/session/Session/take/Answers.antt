use Rattle.std.proofs.Common.{ap, arith}
use Rattle.scenario_reader.specs.Reading.{ReaderState}
use Rattle.scenario_runner.proofs.Following.{took_last, took_line, took_section, took_step}
use Rattle.scenario_runner.proofs.Ready.{behind_on, comes_on, ready_last, ready_line, ready_section, ready_step}
use Rattle.scenario_runner.proofs.session.Session.take.Goals as goal

pub returns-in-Line-clause-ready : goal.returns-in-Line-clause-ready
returns-in-Line-clause-ready g c = ready_line c.args.self.now.reader _ c.args.line.now c.args.self.now.world c.args.self.now.voice c.requires.ready _ c.in_ok-take.ensures.takes c.in-Line.is

pub returns-in-Line-clause-takes : goal.returns-in-Line-clause-takes
returns-in-Line-clause-takes g c = λ s f. took_line s _ c.args.self.now _ _ f (rw c.in-Line.is at (c.in_ok-take.ensures.takes s f.reads))

pub step-requires-clause-by_line : goal.step-requires-clause-by_line
step-requires-clause-by_line g c =
    comes_on c.args.self.now.reader _ c.args.line.now c.args.self.now.world c.args.self.now.voice c.requires.ready _ c.in_ok-take.ensures.takes c.in-Step.step c.in-Step.is

pub step-requires-clause-ready : goal.step-requires-clause-ready
step-requires-clause-ready g c =
    ready_step c.args.self.now.reader _ c.args.line.now c.args.self.now.world c.args.self.now.voice c.requires.ready _ c.in_ok-take.ensures.takes c.in-Step.step c.in-Step.is

pub step-requires-clause-behind : goal.step-requires-clause-behind
step-requires-clause-behind g c =
    behind_on c.args.self.now.reader _ c.args.line.now c.args.self.now.world c.args.self.now.voice c.requires.ready _ c.in_ok-take.ensures.takes c.in-Step.step c.in-Step.is

pub returns-in_ok-step-in-Step-clause-takes : goal.returns-in_ok-step-in-Step-clause-takes
returns-in_ok-step-in-Step-clause-takes g c = λ s f.
    took_step s _ c.args.self.now _ _ f _ _ c.in-Step.step (rw c.in-Step.is at (c.in_ok-take.ensures.takes s f.reads)) c.in_ok-step-in-Step.ensures.does

pub returns-in_ok-step-in-Step-clause-lines : goal.returns-in_ok-step-in-Step-clause-lines
returns-in_ok-step-in-Step-clause-lines g c =
    omega (arith, c.in_ok-take.ensures.lines, ap (λ (r : ReaderState). r.lines) c.in_ok-step-in-Step.ensures.does.reader)

pub returns-in-Section-clause-ready : goal.returns-in-Section-clause-ready
returns-in-Section-clause-ready g c =
    ready_section c.args.self.now.reader _ c.args.line.now c.args.self.now.world c.args.self.now.voice c.requires.ready _ c.in_ok-take.ensures.takes c.in-Section.length c.in-Section.is

pub returns-in-Section-clause-takes : goal.returns-in-Section-clause-takes
returns-in-Section-clause-takes g c = λ s f.
    took_section s _ c.args.self.now _ _ f c.in-Section.length (rw c.in-Section.is at (c.in_ok-take.ensures.takes s f.reads))

pub returns-in-End-clause-ready : goal.returns-in-End-clause-ready
returns-in-End-clause-ready g c =
    ready_last c.args.self.now.reader _ c.args.line.now c.args.self.now.world c.args.self.now.voice c.requires.ready _ c.in_ok-take.ensures.takes c.in-End.last c.in-End.is

pub returns-in-End-clause-takes : goal.returns-in-End-clause-takes
returns-in-End-clause-takes g c = λ s f. took_last s _ c.args.self.now _ _ f c.in-End.last (rw c.in-End.is at (c.in_ok-take.ensures.takes s f.reads))
