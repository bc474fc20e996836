use Rattle.std.proofs.Common.{◌≡◌, take}
use Rattle.br_model.specs.Control.Ends.{due_members}
use Rattle.mdb_snoop.specs.Places.{flat}
use Rattle.mdb_snoop.proofs.sections.expired.Given as goal

abbrev pub invariant-loop-i : goal.invariant-loop-i
invariant-loop-i l = l.ended.items ≡ due_members l.now (flat (take l.i l.sections))
