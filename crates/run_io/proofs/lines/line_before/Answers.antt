use Rattle.std.proofs.lemmas.List.{take_rest}
use Rattle.run_io.proofs.Feeds.{feed_farther, feedless_both}
use Rattle.run_io.proofs.lines.line_before.Goals as goal

pub returns-in-Some-first_feed : goal.returns-in-Some-first_feed
returns-in-Some-first_feed c = feed_farther c.args.bytes.now c.args.held c.in-Some-first_feed.at c.requires.held (rw c.in-None.is at c.requires.line) (rw take_rest at c.in-Some-first_feed.ensures)

pub returns-in-None-first_feed : goal.returns-in-None-first_feed
returns-in-None-first_feed c =
    let rest = c.in-None-first_feed.ensures in
    feedless_both c.args.bytes.now c.args.held (rw c.in-None.is at c.requires.line) (rw take_rest at rest)
