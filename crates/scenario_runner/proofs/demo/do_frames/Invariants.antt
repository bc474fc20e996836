use Rattle.std.proofs.Common.{◌≡◌, ◌++◌, List, length}
use Rattle.br_model.specs.declared.steps.Step.{Step}
use Rattle.scenario_runner.specs.Counting.{RunsOn}
use Rattle.scenario_runner.proofs.demo.do_frames.Given as goal

abbrev pub invariant-loop-made : goal.invariant-loop-made
invariant-loop-made g l = record {
  ran : (done : List Step) × (l.fn.frames ≡ done ++ l.frames) × RunsOn l.fn.world l.fn.tally done l.world l.tally;
  setup : l.world.setup ≡ l.fn.world.setup;
}

abbrev pub decreases-loop-made : goal.decreases-loop-made
decreases-loop-made g l = length l.frames
