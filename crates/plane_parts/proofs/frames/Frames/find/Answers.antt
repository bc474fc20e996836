use Rattle.std.proofs.Common.{◌==◌, ap, ◌∙◌}
use Rattle.std.specs.List.{find}
use Rattle.std.specs.Ordering.{nat_cmp}
use Rattle.std.specs.Map.{lookup}
use Rattle.std.specs.BTreeMap.{is_at}
use Rattle.plane_parts.specs.Queued.{held_in}
use Rattle.plane_parts.proofs.HeldRows.{found}
use Rattle.plane_parts.proofs.frames.Frames.find.Goals as goal

pub returns : goal.returns
returns c = c.get.ensures.value
    ∙ (ap (λ es. lookup (is_at (nat_cmp c.args.id)) es) c.self.invariant.1
    ∙ (found c.args.id (held_in c.self.inside.held.entries)
    ∙ ap (λ q. find (λ h. h.waiting.id == c.args.id) q.held) c.self.view_is))
