use Rattle.std.proofs.Common.{[], ◌∷◌, ◌++◌, Err, ap, ◌∙◌}
use Rattle.std.proofs.lemmas.Result.{err_from_is_err_and}
use Rattle.whole_texts.specs.Sessions.{IsWanted, RefusesLine, end_of}
use Rattle.whole_texts.proofs.Sessions.{refused}
use Rattle.whole_texts.proofs.session.Session.line.Goals as goal

pub returns-in_err-admit_line : goal.returns-in_err-admit_line
returns-in_err-admit_line c =
    let old = c.args.self.now in
    let line = c.args.line.now in
    let err = err_from_is_err_and c.from_residual.result c.from_residual.ensures.1 in
    refused old (line ++ 10 ∷ []) (IsWanted old line) (RefusesLine old line) _ c.from_residual.result (err.1 ∙ ap Err err.2) c.in_err-admit_line.ensures

pub returns-in-Err : goal.returns-in-Err
returns-in-Err c = (tt, ap end_of c.in_ok-admit_line.ensures.awaits)
