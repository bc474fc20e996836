use Rattle.std.proofs.Common.{◌≤◌}
use Rattle.run_io.specs.Reading.{room}
use Rattle.br_model.specs.Table.Limits.{most_bytes}
use Rattle.capture_runner.specs.Following.{Follows}
use Rattle.capture_runner.proofs.follow.read_lines.Given as goal

abbrev pub invariant-loop-reader : goal.invariant-loop-reader
invariant-loop-reader g l = record {
  follows : Follows (g.S.Source.left l.fn.source) most_bytes l.reader (g.S.Source.left l.source) l.follower;
  reads : g.S.Source.faults l.fn.source ≤ g.S.Source.faults l.source;
}

abbrev pub decreases-loop-reader : goal.decreases-loop-reader
decreases-loop-reader g l = room l.reader
