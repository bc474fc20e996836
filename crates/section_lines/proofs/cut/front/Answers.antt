use Rattle.scenario_reader.proofs.Cutting.{feedless, no_feed, parted}
use Rattle.section_lines.proofs.cut.front.Goals as goal

pub returns-in-Some : goal.returns-in-Some
returns-in-Some c =
    let xs = c.args.bytes.now in
    record { joined = parted xs c.in-Some.at c.in-Some.ensures; feedless = feedless xs c.in-Some.at c.in-Some.ensures }

pub returns-in-None : goal.returns-in-None
returns-in-None c = no_feed c.args.bytes.now c.in-None.ensures
