use Rattle.std.proofs.Common.{rules}
use Rattle.deferred_queue.proofs.Moves.{begins, forks}
use Rattle.deferred_queue.proofs.ends.make.Goals as goal

pub ruled-requires-clause-rule : goal.ruled-requires-clause-rule
ruled-requires-clause-rule c = begins

pub another-theirs-requires-clause-rule : goal.another-theirs-requires-clause-rule
another-theirs-requires-clause-rule c = forks _ _ (search rules) (search rules)
