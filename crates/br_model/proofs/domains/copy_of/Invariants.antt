use Rattle.std.proofs.Common.{◌≡◌, take, length}
use Rattle.br_model.proofs.domains.copy_of.Given as goal

abbrev pub invariant-loop-i : goal.invariant-loop-i
invariant-loop-i l = record { same : take l.i l.copy ≡ take l.i l.places; long : length l.copy ≡ length l.places }
