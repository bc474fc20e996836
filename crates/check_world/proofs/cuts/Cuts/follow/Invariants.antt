use Rattle.std.proofs.Common.{◌≡◌, drop}
use Rattle.std.specs.List.{AllWithin}
use Rattle.check_world.specs.Cuts.{IsCut, chips_of}
use Rattle.check_world.proofs.cuts.Cuts.follow.Given as goal

abbrev pub invariant-loop-place : goal.invariant-loop-place
invariant-loop-place l =
    (chips_of l.self-inside.cuts.items ≡ chips_of l.initial.self-inside.cuts.items)
    × (drop l.place l.self-inside.cuts.items ≡ drop l.place l.initial.self-inside.cuts.items)
    × AllWithin (IsCut l.domains.edition l.history) l.self-inside.cuts.items 0 l.place
