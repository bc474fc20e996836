use Rattle.std.proofs.Common.{rules}
use Rattle.bridge_command.proofs.HexWords.{decoded, refused}
use Rattle.section_lines.proofs.spelled.decoded.Goals as goal

pub returns-in-Ok : goal.returns-in-Ok
returns-in-Ok c = decoded c.args.digits.now c.in-Ok.bytes.items c.of.result c.of.ensures c.in-Ok.ensures.ok

pub returns-in-Err : goal.returns-in-Err
returns-in-Err c = refused c.args.digits.now c.in-Err.field-0 (search rules) c.in-Err.ensures.err
