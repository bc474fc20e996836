use Rattle.std.proofs.Common.{Err, ap, ◌∙◌}
use Rattle.std.proofs.lemmas.Result.{err_from_is_err_and}
use Rattle.capture_runner.proofs.Followed.{answered, lacks_table, lacks_text, yields_stop}
use Rattle.capture_runner.proofs.follow.followed.Goals as goal

pub returns-clause-yields : goal.returns-clause-yields
returns-clause-yields g c = answered _ _ _ _ _ c.in_ok-end.ensures.ends c.in_ok-text.ensures

pub returns-in_err-follower-clause-yields : goal.returns-in_err-follower-clause-yields
returns-in_err-follower-clause-yields g c =
    let err = err_from_is_err_and c.from_residual.result c.from_residual.ensures.1 in
    lacks_table _ _ (err.1 ∙ ap Err err.2)

pub returns-in_err-end-clause-yields : goal.returns-in_err-end-clause-yields
returns-in_err-end-clause-yields g c =
    let err = err_from_is_err_and c.from_residual-in_err-end.result c.from_residual-in_err-end.ensures.1 in
    yields_stop _ _ c.read_lines.new.follower.table c.in_err-end.field-0.0 _ (err.1 ∙ ap Err err.2) c.in_err-end.ensures.ends

pub returns-in_err-text-clause-yields : goal.returns-in_err-text-clause-yields
returns-in_err-text-clause-yields g c =
    let err = err_from_is_err_and c.from_residual-in_err-text.result c.from_residual-in_err-text.ensures.1 in
    lacks_text _ _ _ _ _ c.in_ok-end.ensures.ends (err.1 ∙ ap Err err.2)
