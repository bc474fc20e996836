use Rattle.std.proofs.Common.{◌≡◌, ◌≤◌, ◌+◌, ◌++◌, fold, length}
use Rattle.std.specs.Prelude.{vec_capacity}
use Rattle.br_model.specs.Control.Snooping.{acted}
use Rattle.bridge_state.specs.Hearing.{Adds}
use Rattle.bridge_state.proofs.snooping.Speaker.records.Given as goal

abbrev pub invariant-loop-act : goal.invariant-loop-act
invariant-loop-act l = record {
  splits : l.fn.records ≡ l.yielded ++ l.act-iterator;
  adds : Adds l.self l.fn.groups l.groups l.fn.changes.items l.changes.items (λ r. fold (acted l.self.port l.self.vid) r l.yielded);
  count : length l.changes.items ≤ length l.fn.changes.items + length l.yielded;
  capacity : vec_capacity l.changes ≡ vec_capacity l.fn.changes;
}
