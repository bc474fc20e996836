use Rattle.run_io.proofs.Feeds.{first_feed_found}
use Rattle.run_io.proofs.lines.first_feed.Goals as goal

pub returns : goal.returns
returns c = first_feed_found c.args.bytes.now c.memchr.result c.memchr.ensures
