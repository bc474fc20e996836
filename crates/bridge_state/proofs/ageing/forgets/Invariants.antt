use Rattle.std.proofs.Common.{◌≡◌, take}
use Rattle.br_model.specs.Control.Ageing.{forgets}
use Rattle.bridge_state.proofs.ageing.forgets.Given as goal

abbrev pub invariant-loop-vid : goal.invariant-loop-vid
invariant-loop-vid l = l.changes.items ≡ forgets (take l.vid-index l.keys)
