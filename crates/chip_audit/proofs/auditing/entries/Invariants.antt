use Rattle.std.proofs.Common.{◌≡◌, ◌-◌, ◌≤◌, Some}
use Rattle.br_model.specs.Plane.Chip.{Chip}
use Rattle.br_model.specs.Plane.World.{chip_at}
use Rattle.chip_audit.specs.Marks.{entries_at}
use Rattle.chip_audit.proofs.auditing.entries.Given as goal

abbrev pub invariant-loop-ticket : goal.invariant-loop-ticket
invariant-loop-ticket l =
    (l.applied ≤ l.ticket)
    × ((c : Chip) → chip_at l.p.world l.fn.d ≡ Some c → l.entries.entries ≡ entries_at l.p.world.setup.domains.edition l.p.world.history c.count (l.ticket - l.applied))
