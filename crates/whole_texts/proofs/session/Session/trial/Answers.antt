use Rattle.std.proofs.Common.{subst, sym}
use Rattle.scenario_reader.specs.Reading.{Follows}
use Rattle.whole_texts.proofs.Trials.{session_so, trial_told}
use Rattle.whole_texts.proofs.session.Session.trial.Goals as goal

pub returns : goal.returns
returns c =
    trial_told c.args.self.now c.args.line.now c.in_ok-end.end c.bad_text.result
    (session_so c.args.self.now c.args.line.now c.in_ok-end.end c.requires.wanted.awaits (λ s f. c.in_ok-end.ensures s (subst (Follows s) (sym c.reader.ensures) f)))
    c.bad_text.ensures
