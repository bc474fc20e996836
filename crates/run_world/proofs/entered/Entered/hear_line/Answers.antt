use Rattle.std.proofs.Common.{◌≡◌, [], sym, ◌∙◌, rules}
use Rattle.run_world.proofs.Hearing.{heard_leaving, heard_nothing}
use Rattle.run_world.proofs.entered.Entered.hear_line.Goals as goal

pub returns-in-Some : goal.returns-in-Some
returns-in-Some c = λ askers keeps.
    let left : c.number.result ≡ c.in-Some.port = search rules in
    heard_leaving askers c.args.now c.args.line.now _ _ (sym c.leaving.ensures ∙ c.in-Some.is) (rw left at (c.hear_at.ensures askers [] keeps))

pub returns-in-None : goal.returns-in-None
returns-in-None c = λ askers keeps. heard_nothing askers c.args.now c.args.line.now c.args.querier.now (sym c.leaving.ensures ∙ c.in-None.is)
