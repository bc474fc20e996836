use Rattle.std.proofs.Common.{◌∙◌, ap}
use Rattle.std.specs.Option.{option_to_list}
use Rattle.driver_notices.proofs.Tellers.{update-taken}
use Rattle.driver_notices.proofs.teller.take.Goals as goal

pub returns : goal.returns
returns c = λ w chip is. ap option_to_list c.applied.ensures ∙ update-taken c.args.step c.args.dom w chip c.args.update is
