use Rattle.driver_notices.proofs.Turns.{run-none, run-taken}
use Rattle.driver_notices.proofs.laws.turns_take_the_beginning.Goals as goal

pub returns : goal.returns
returns c = record { chip = run-taken; none = run-none }
