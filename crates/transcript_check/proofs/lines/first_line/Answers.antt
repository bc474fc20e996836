use Rattle.std.proofs.Common.{refl}
use Rattle.transcript_check.proofs.Cutting.{first_with, first_without}
use Rattle.transcript_check.proofs.lines.first_line.Goals as goal

pub returns-in-Some : goal.returns-in-Some
returns-in-Some c = first_with c.args.bytes.now c.in-Some.parts c.in-Some.ensures

pub returns-in-None : goal.returns-in-None
returns-in-None c = first_without c.args.bytes.now _ c.in-None.ensures refl refl
