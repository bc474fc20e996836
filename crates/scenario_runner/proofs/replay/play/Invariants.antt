use Rattle.std.proofs.Common.{◌≡◌, ℕ, ◌≤◌, List, string_bytes}
use Rattle.run_io.specs.Reading.{room}
use Rattle.br_model.specs.Table.Limits.{most_bytes}
use Rattle.run_status.specs.Writing.{Written}
use Rattle.scenario_runner.specs.Playing.{Playing}
use Rattle.scenario_runner.specs.Session.{IsReady}
use Rattle.run_world.specs.Voices.{lines_of}
use Rattle.scenario_runner.proofs.Telling.{StandsBehind}
use Rattle.scenario_runner.proofs.replay.play.Given as goal

abbrev pub invariant-loop-reader : goal.invariant-loop-reader
invariant-loop-reader g l = record {
  plays : (all : List ℕ) × Written (g.K.Sink.taken l.fn.sink) (g.K.Sink.taken l.sink) (string_bytes l.output.text) all
      × Playing (g.S.Source.left l.fn.source) most_bytes l.reader (g.S.Source.left l.source) l.session all;
  behind : StandsBehind l.reader (g.S.Source.left l.fn.source) (g.S.Source.left l.source) (g.K.Sink.taken l.fn.sink) (g.K.Sink.taken l.sink);
  same : lines_of l.session.voice ≡ lines_of l.fn.session.voice;
  ready : IsReady l.session.reader.roster l.session.world l.session.voice;
  reads : g.S.Source.faults l.fn.source ≤ g.S.Source.faults l.source;
  writes : g.K.Sink.faults l.fn.sink ≤ g.K.Sink.faults l.sink;
}

abbrev pub decreases-loop-reader : goal.decreases-loop-reader
decreases-loop-reader g l = room l.reader
