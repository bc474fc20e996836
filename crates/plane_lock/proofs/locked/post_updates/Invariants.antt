use Rattle.std.proofs.Common.{◌≡◌, take}
use Rattle.br_model.specs.Table.Change.{updates}
use Rattle.plane_lock.proofs.locked.post_updates.Given as goal

abbrev pub invariant-loop-ticket : goal.invariant-loop-ticket
invariant-loop-ticket g l = l.poster ≡ record l.initial.poster { posted = take l.ticket (updates l.plane.world.setup.domains.edition l.plane.world.history) }
