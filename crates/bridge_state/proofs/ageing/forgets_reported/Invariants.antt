use Rattle.std.proofs.Common.{◌≡◌, take}
use Rattle.br_model.specs.Control.Ageing.{forgets, forgotten}
use Rattle.bridge_state.specs.Standing.{table_of}
use Rattle.bridge_state.proofs.ageing.forgets_reported.Given as goal

abbrev pub invariant-loop-vid : goal.invariant-loop-vid
invariant-loop-vid l = l.changes.items ≡ forgets (forgotten (table_of l.state) (take l.vid-index l.stations))
