use Rattle.timings.proofs.Least.{least-least, least-passes, least-found}
use Rattle.timings.proofs.laws.least_is_least.Goals as goal

pub returns : goal.returns
returns c = record { least = least-least; passes = least-passes; found = least-found }
