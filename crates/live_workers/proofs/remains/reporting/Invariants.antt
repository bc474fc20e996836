use Rattle.std.proofs.Common.{◌≡◌, ◌++◌, drop}
use Rattle.std.specs.List.{filter}
use Rattle.br_model.specs.Plane.World.{chip_at}
use Rattle.live_book.specs.Ends.{has_reports_at}
use Rattle.plane_record.specs.Pasts.{world_of}
use Rattle.live_workers.proofs.remains.reporting.Given as goal

-- those found so far, and those that the others have
abbrev pub invariant-loop-dom : goal.invariant-loop-dom
invariant-loop-dom l =
    l.doms ++ filter (λ d. has_reports_at (chip_at (world_of l.ran) d)) (drop l.dom-index l.chips)
    ≡ filter (λ d. has_reports_at (chip_at (world_of l.ran) d)) l.chips
