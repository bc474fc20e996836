use Rattle.run_io.proofs.Feeds.{feedless_rest, feed_nearer}
use Rattle.run_io.proofs.lines.line_after.Goals as goal

pub returns-in-None : goal.returns-in-None
returns-in-None c = feedless_rest c.args.past c.args.held.now (rw c.in-None.is at c.requires.line)

pub returns-in-Some : goal.returns-in-Some
returns-in-Some c = feed_nearer c.args.held.now c.args.past c.in-Some.len c.if-past-len.true (rw c.in-Some.is at c.requires.line)
