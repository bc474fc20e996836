use Rattle.chip_driver.specs.Making.{MarksOwn}
use Rattle.chip_driver.proofs.making.mark_own.Given as goal

abbrev pub invariant-loop-n : goal.invariant-loop-n
invariant-loop-n l = MarksOwn l.own l.n l.initial.tables l.tables
