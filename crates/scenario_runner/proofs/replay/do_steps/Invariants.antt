use Rattle.std.proofs.Common.{◌≡◌, ◌≤◌, ◌++◌, true, false, string_bytes}
use Rattle.std.specs.List.{list_all}
use Rattle.scenario_runner.specs.Halting.{DoesAll}
use Rattle.run_status.specs.Writing.{Grows}
use Rattle.br_model.specs.Text.LineForms.{comes_by_line}
use Rattle.br_model.specs.Text.Roster.{chips_of}
use Rattle.scenario_runner.specs.Session.{IsReady}
use Rattle.run_world.specs.Voices.{lines_of}
use Rattle.scenario_runner.proofs.replay.do_steps.Given as goal

abbrev pub invariant-loop-step : goal.invariant-loop-step
invariant-loop-step g l = record {
  parts : l.fn.steps.items ≡ l.yielded ++ l.step-iterator.rest.items;
  by_line : list_all (comes_by_line false (chips_of l.fn.session.reader.roster.ports)) l.step-iterator.rest.items ≡ true;
  reader : l.session.reader ≡ l.fn.session.reader;
  same : lines_of l.session.voice ≡ lines_of l.fn.session.voice;
  ready : IsReady l.session.reader.roster l.session.world l.session.voice;
  does : DoesAll l.fn.session l.yielded l.session (g.K.Sink.taken l.fn.sink) (g.K.Sink.taken l.sink) (string_bytes l.fn.output.text) (string_bytes l.output.text);
  grows : Grows (g.K.Sink.taken l.fn.sink) (g.K.Sink.taken l.sink);
  later : g.K.Sink.faults l.fn.sink ≤ g.K.Sink.faults l.sink;
}
