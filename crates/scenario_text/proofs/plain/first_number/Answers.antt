use Rattle.std.proofs.Common.{arith}
use Rattle.scenario_text.proofs.PlainLines.{two_digits, three_digits, four_digits}
use Rattle.scenario_text.proofs.plain.first_number.Goals as goal

pub returns-in-32-entry : goal.returns-in-32-entry
returns-in-32-entry c = two_digits c.args.entry.now c.in_ok-number-2.number (omega arith) (omega arith) c.in_ok-number-2.ensures.spelled

pub returns-in-32-entry-2 : goal.returns-in-32-entry-2
returns-in-32-entry-2 c = three_digits c.args.entry.now c.in_ok-number-3.number (omega arith) (omega arith) c.in_ok-number-3.ensures.spelled

pub returns-in-32-entry-3 : goal.returns-in-32-entry-3
returns-in-32-entry-3 c = four_digits c.args.entry.now c.in_ok-number-4.number (omega arith) (omega arith) c.in_ok-number-4.ensures
