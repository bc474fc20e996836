use Rattle.std.proofs.Common.{[], subst, string_bytes}
use Rattle.std.proofs.lemmas.Result.{IfOk-weaker}
use Rattle.scenario_play.specs.declared.play.Taken.{Taken}
use Rattle.scenario_play.specs.Playing.{After, IsBehind, played}
use Rattle.scenario_play.proofs.Lines.{line_goes_on, over_in_line}
use Rattle.scenario_play.proofs.Steps.{ready_of}
use Rattle.scenario_play.proofs.play.Play.line.Goals as goal

pub section-requires-clause-ready : goal.section-requires-clause-ready
section-requires-clause-ready g c = ready_of c.take.new.self.reader.roster (g.W.Stage.stands c.take.new.stage).world c.in_ok-take.ensures.steady

pub section-requires-clause-most : goal.section-requires-clause-most
section-requires-clause-most g c =
    let roster = c.take.new.self.reader.roster in (subst (λ (r : Taken). IsBehind roster r) c.in-Section.is c.in_ok-take.ensures.behind).0

pub returns-in-On-clause-goes : goal.returns-in-On-clause-goes
returns-in-On-clause-goes g c = λ s h.
    line_goes_on s c.args.front.line.now c.args.front.behind.now (played c.take.new.self (g.W.Stage.stands c.take.new.stage) (string_bytes c.take.new.text)) c.in_ok-take.ensures.fits
    (subst (λ (t : Taken). After [] s c.args.front.line.now (played c.take.new.self (g.W.Stage.stands c.take.new.stage) (string_bytes c.take.new.text)) t) c.in-On.is (c.in_ok-take.ensures.after [] s h))

pub returns-in-Section-clause-goes : goal.returns-in-Section-clause-goes
returns-in-Section-clause-goes g c =
    IfOk-weaker c.section.result _ _
    (λ went goes s h. goes s c.args.front.line.now
    (subst (λ (t : Taken). After [] s c.args.front.line.now (played c.take.new.self (g.W.Stage.stands c.take.new.stage) (string_bytes c.take.new.text)) t) c.in-Section.is (c.in_ok-take.ensures.after [] s h)))
    c.section.ensures.goes

pub returns-in-Ends-clause-goes : goal.returns-in-Ends-clause-goes
returns-in-Ends-clause-goes g c = λ s h.
    over_in_line s c.args.front.line.now c.args.front.behind.now (played c.take.new.self (g.W.Stage.stands c.take.new.stage) (string_bytes c.take.new.text)) c.in-Ends.last
    (subst (λ (t : Taken). After [] s c.args.front.line.now (played c.take.new.self (g.W.Stage.stands c.take.new.stage) (string_bytes c.take.new.text)) t) c.in-Ends.is (c.in_ok-take.ensures.after [] s h))
