use Rattle.std.proofs.Common.{rules}
use Rattle.deferred_queue.proofs.Counts.{begins, cuts}
use Rattle.deferred_queue.proofs.tally.Tally.make.Goals as goal

pub of_words-requires : goal.of_words-requires
of_words-requires c = begins

pub split_seat-theirs-requires : goal.split_seat-theirs-requires
split_seat-theirs-requires c = (search rules, search rules, cuts _ _ (search rules) (search rules))
