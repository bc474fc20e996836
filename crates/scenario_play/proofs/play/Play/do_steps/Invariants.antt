use Rattle.std.proofs.Common.{◌≡◌, ◌++◌, true, string_bytes}
use Rattle.std.specs.List.{list_all}
use Rattle.br_model.specs.Text.LineForms.{comes_by_line}
use Rattle.br_model.specs.Text.Roster.{chips_of}
use Rattle.scenario_play.specs.Playing.{DoesAll, Fits, IsReady, played}
use Rattle.scenario_play.specs.Stages.{Keeps}
use Rattle.scenario_play.proofs.play.Play.do_steps.Given as goal

abbrev pub invariant-loop-step : goal.invariant-loop-step
invariant-loop-step g l = record {
  parts : l.fn.steps.items ≡ l.yielded ++ l.step-iterator.rest.items;
  by_line : list_all (comes_by_line l.fn.self.reader.roster.check (chips_of l.fn.self.reader.roster.ports)) l.step-iterator.rest.items ≡ true;
  reader : l.self.reader ≡ l.fn.self.reader;
  ready : IsReady l.self.reader.roster (g.W.Stage.stands l.stage).world;
  fits : Fits l.self.reader.roster (g.W.Stage.stands l.stage);
  keeps : Keeps (g.W.Stage.stands l.fn.stage) (g.W.Stage.stands l.stage);
  does : DoesAll (played l.fn.self (g.W.Stage.stands l.fn.stage) (string_bytes l.fn.text)) l.yielded (played l.self (g.W.Stage.stands l.stage) (string_bytes l.text));
}
