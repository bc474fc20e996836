use Rattle.std.proofs.Common.{◌+◌, ◌≤◌, length}
use Rattle.br_model.specs.Table.Limits.{most_bytes}
use Rattle.whole_texts.proofs.Messages.{GoesOn}
use Rattle.whole_texts.proofs.following.follow_lines.Given as goal

abbrev pub invariant-loop-front : goal.invariant-loop-front
invariant-loop-front l = record {
  few : l.follower.lines + length l.rest ≤ most_bytes;
  goes : GoesOn l.fn.bytes l.follower l.rest;
}

abbrev pub decreases-loop-front : goal.decreases-loop-front
decreases-loop-front l = length l.rest
