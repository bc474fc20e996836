use Rattle.chip_driver.specs.Making.{SwitchesTraps}
use Rattle.chip_driver.proofs.switches.switch_traps.Given as goal

abbrev pub invariant-loop-i : goal.invariant-loop-i
invariant-loop-i l = SwitchesTraps l.fn.low l.i l.on l.initial.tables l.tables
