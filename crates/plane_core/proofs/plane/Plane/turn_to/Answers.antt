use Rattle.std.proofs.Common.{refl}
use Rattle.plane_core.proofs.plane.Plane.turn_to.Goals as goal

pub returns-in-Some-clause-turned : goal.returns-in-Some-clause-turned
returns-in-Some-clause-turned c = (c.in-Some.ensures.some, refl)

pub returns-in_ok-turn_next-in-None-clause-turned : goal.returns-in_ok-turn_next-in-None-clause-turned
returns-in_ok-turn_next-in-None-clause-turned c = let a = c.in_ok-turn_next-in-None.ensures.ok in record { lines = a.lines; so = (a.so, c.in-None.ensures.none); added = a.added }
