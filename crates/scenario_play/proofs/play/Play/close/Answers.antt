use Rattle.std.proofs.Common.{[], arith}
use Rattle.scenario_play.proofs.Lines.{rest_closes, rest_too_long}
use Rattle.scenario_play.proofs.play.Play.close.Goals as goal

pub returns-then-rest-gt-LONGEST_LINE : goal.returns-then-rest-gt-LONGEST_LINE
returns-then-rest-gt-LONGEST_LINE g c = λ s text h. rest_too_long [] s _ h c.args.rest.now _ c.requires.feedless (omega (arith, c.if-rest-gt-LONGEST_LINE.true)) c.bad.ensures

pub returns : goal.returns
returns g c = λ s text h. rest_closes [] s _ h c.args.rest.now _ c.requires.feedless (omega (arith, c.if-rest-gt-LONGEST_LINE.false)) (c.close.ensures s h.follows)
