use Rattle.std.proofs.Common.{take}
use Rattle.std.specs.List.{list_any}
use Rattle.stp_core.specs.Due.{IsFirst, is_due_at}
use Rattle.stp_core.specs.Places.{entries_at}
use Rattle.stp_core.proofs.idle.ports_due.Given as goal

abbrev pub invariant-loop-p : goal.invariant-loop-p
invariant-loop-p l = IsFirst l.due (λ now. list_any (is_due_at l.election l.delay now) (entries_at 0 (take l.p l.places)))
