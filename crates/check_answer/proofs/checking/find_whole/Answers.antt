use Rattle.std.proofs.Common.{◌-◌, length, drop, ap, ◌∙◌, arith, length-drop, take_all}
use Rattle.std.proofs.lemmas.Result.{IfOk-weaker}
use Rattle.check_answer.proofs.checking.find_whole.Goals as goal

pub find-requires-clause-says : goal.find-requires-clause-says
find-requires-clause-says c = (c.args.bytes.now, c.in_ok-scenario.ensures.says)

pub returns : goal.returns
returns c =
    let bytes = c.args.bytes.now in
    let at = c.behind-behind.result in
    let behind =
    take_all (length bytes - at) (drop at bytes) (omega (arith, length-drop at bytes)) ∙ ap (λ k. drop k bytes) c.behind-behind.ensures ∙ c.in_ok-scenario.ensures.says.behind in
    IfOk-weaker c.find.result _ _ (λ found f. f c.args.bytes.now c.in_ok-scenario.ensures.says behind) c.find.ensures
