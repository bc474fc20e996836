use Rattle.std.proofs.Common.{arith, sym}
use Rattle.scenario_text.proofs.digits.decoded.Goals as goal
use Rattle.br_model.proofs.Data.Hex.{odd-none}

pub returns-then-digits-ne0 : goal.returns-then-digits-ne0
returns-then-digits-ne0 c = sym (odd-none c.args.digits.now (omega arith))
