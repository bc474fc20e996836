use Rattle.bridge_command.proofs.HexWords.{sized, not-sized}
use Rattle.bridge_command.proofs.operands.six_bytes.Goals as goal

pub returns-in-Ok : goal.returns-in-Ok
returns-in-Ok c = sized 6 c.args.digits.now c.in-Ok.bytes c.requires c.in-Ok.ensures

pub returns-in-Err : goal.returns-in-Err
returns-in-Err c = not-sized 6 c.args.digits.now c.in-Err.field-0 c.requires c.in-Err.ensures
