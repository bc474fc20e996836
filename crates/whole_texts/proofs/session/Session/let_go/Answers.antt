use Rattle.whole_texts.proofs.Sessions.{lets_go}
use Rattle.whole_texts.proofs.session.Session.let_go.Goals as goal

pub returns-clause-sound : goal.returns-clause-sound
returns-clause-sound c = record { most = c.requires.most; awaiting = c.requires.awaiting }

pub returns-clause-at : goal.returns-clause-at
returns-clause-at c = lets_go c.args.self.now _ c.clear.ensures.bytes
