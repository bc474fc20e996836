use Rattle.std.proofs.Common.{ℕ, ◌≤◌, List, Option, string_bytes}
use Rattle.scenario_runner.specs.Generating.{HasRoom, Together}
use Rattle.scenario_runner.proofs.commands.put_frames.Given as goal

abbrev pub invariant-loop-output : goal.invariant-loop-output
invariant-loop-output g l = record {
  room : HasRoom l.output;
  goes_on : (before : Option (List ℕ)) (whole : List ℕ) → Together before (g.K.Sink.taken l.fn.sink) (string_bytes l.fn.output.text) l.fn.frames whole
      → Together before (g.K.Sink.taken l.sink) (string_bytes l.output.text) l.frames whole;
  later : g.K.Sink.faults l.fn.sink ≤ g.K.Sink.faults l.sink;
}

abbrev pub decreases-loop-output : goal.decreases-loop-output
decreases-loop-output g l = l.frames.left
