use Rattle.std.proofs.Common.{◌≡◌, take}
use Rattle.std.specs.List.{fold}
use Rattle.br_model.specs.Control.Control.{keeps_up}
use Rattle.br_model.specs.Theorems.EndsTied.{IsTied}
use Rattle.br_model.specs.Table.Table.{apply}
use Rattle.bridge_state.specs.Standing.{table_of, control_of}
use Rattle.bridge_state.proofs.state.State.follow.Given as goal

abbrev pub invariant-loop-change : goal.invariant-loop-change
invariant-loop-change l = record {
  table : table_of l.self ≡ fold apply (table_of l.initial.self) (take l.change-index l.changes);
  tied : IsTied (table_of l.self) l.self.groups;
  now : l.self.clock.now ≡ l.initial.self.clock.now;
  control : control_of l.self ≡ fold keeps_up (control_of l.initial.self) (take l.change-index l.changes);
}
