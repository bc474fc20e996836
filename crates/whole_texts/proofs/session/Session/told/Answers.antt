use Rattle.std.proofs.Common.{◌++◌, List, ℕ, ap, ◌∙◌}
use Rattle.whole_texts.proofs.Sessions.{session_told}
use Rattle.whole_texts.proofs.session.Session.told.Goals as goal

pub returns : goal.returns
returns c = λ bytes given h. ap (λ (b : List ℕ). given ++ b) c.as_bytes.ensures.value ∙ session_told c.args.self.now bytes given h
