use Rattle.std.proofs.Common.{◌≡◌, take}
use Rattle.std.specs.List.{fold}
use Rattle.br_model.specs.Table.Table.{apply}
use Rattle.bridge_state.specs.Standing.{table_of, control_of, places}
use Rattle.bridge_state.proofs.state.State.place_all.Given as goal

abbrev pub invariant-loop-change : goal.invariant-loop-change
invariant-loop-change l = record {
  table : table_of l.self ≡ fold apply (table_of l.initial.self) (take l.change-index l.changes);
  control : control_of l.self ≡ fold places (control_of l.initial.self) (take l.change-index l.changes);
  now : l.self.clock.now ≡ l.initial.self.clock.now;
}
