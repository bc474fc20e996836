use Rattle.std.proofs.Common.{arith}
use Rattle.live_book.proofs.Openings.{unopened}
use Rattle.live_book.proofs.parts.first_part.Goals as goal

pub returns-else-taken-opening-2-clause-value : goal.returns-else-taken-opening-2-clause-value
returns-else-taken-opening-2-clause-value c =
    unopened c.args.opening.now c.args.steps.now c.loop-place.taken c.loop-place.place (omega arith) (omega arith) c.loop-place.invariant.comes
