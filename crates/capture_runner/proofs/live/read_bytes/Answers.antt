use Rattle.std.proofs.Common.{arith}
use Rattle.std.proofs.lemmas.Result.{IfOk-weaker}
use Rattle.capture_runner.proofs.Living.{are_bytes, lines_of_whole}
use Rattle.capture_runner.proofs.live.read_bytes.Goals as goal

pub returns-clause-lines : goal.returns-clause-lines
returns-clause-lines c =
    IfOk-weaker _ _ _ (λ x says. lines_of_whole c.args.bytes.now x says (are_bytes c.args.bytes.now (λ i. omega (arith, c.type_inv.bytes i)))) c.read_scenario.ensures.says
