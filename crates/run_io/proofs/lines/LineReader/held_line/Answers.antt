use Rattle.std.proofs.Common.{arith}
use Rattle.run_io.proofs.ReadSteps.{long_line, long_rest}
use Rattle.run_io.proofs.lines.LineReader.held_line.Goals as goal

pub returns-in_default-clause-long : goal.returns-in_default-clause-long
returns-in_default-clause-long c = long_line c.args.self.now c.in-Some.len (rw (← c.self.view_is) (rw c.in-Some.is at c.self.invariant.line)) (omega (arith, c.if-len-le-MAX_LINE.false))

pub returns-in_default-2-clause-long : goal.returns-in_default-2-clause-long
returns-in_default-2-clause-long c = long_rest c.args.self.now (rw (← c.self.view_is) (rw c.in-None.is at c.self.invariant.line)) (rw c.held_len.ensures.len at c.if-held_len-le-MAX_LINE.false)
