use Rattle.std.proofs.Common.{◌≡◌, length}
use Rattle.std.specs.List.{All, AllWithin}
use mathlib.Core.List.{IsPrefix}
use Rattle.br_model.specs.Table.Change.{updates}
use Rattle.deferred_queue.specs.Ends.{Posting}
use Rattle.plane_lock.proofs.locked.post_all.Given as goal

-- what each end has posted stands before all, and the first ones have posted all
abbrev pub invariant-loop-place : goal.invariant-loop-place
invariant-loop-place g l =
    (length l.posters.items ≡ length l.initial.posters.items)
    × All (λ (x : Posting). IsPrefix x.posted (updates l.plane.world.setup.domains.edition l.plane.world.history)) l.posters.items
    × AllWithin (λ (x : Posting). x.posted ≡ updates l.plane.world.setup.domains.edition l.plane.world.history) l.posters.items 0 l.place
