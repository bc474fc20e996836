use Rattle.std.proofs.Common.{sym, ap, ◌∙◌}
use Rattle.whole_texts.specs.Sessions.{end_of}
use Rattle.whole_texts.proofs.Sessions.{session_ends}
use Rattle.whole_texts.proofs.session.Session.ended.Goals as goal

pub returns-in-Line-clause-ends : goal.returns-in-Line-clause-ends
returns-in-Line-clause-ends c = λ bytes given h. sym (ap end_of c.in-Line.is) ∙ session_ends c.args.self.now bytes given h

pub returns-in-Section-clause-ends : goal.returns-in-Section-clause-ends
returns-in-Section-clause-ends c = λ bytes given h. sym (ap end_of c.in-Section.is) ∙ session_ends c.args.self.now bytes given h

pub returns-in-Nothing-clause-ends : goal.returns-in-Nothing-clause-ends
returns-in-Nothing-clause-ends c = λ bytes given h. sym (ap end_of c.in-Nothing.is) ∙ session_ends c.args.self.now bytes given h
