use Rattle.std.proofs.Common.{◌≡◌, ◌-◌, ◌≤◌, [], ◌∷◌, map, take}
use Rattle.std.specs.List.{All, filter}
use Rattle.br_model.specs.Plane.Chip.{first_chip}
use Rattle.br_model.specs.Table.Domains.{has_chip}
use Rattle.hwdom_chips.specs.Chips.{IsChip, chips_of}
use Rattle.hwdom_chips.proofs.chips.Chips.make.Given as goal

abbrev pub invariant-loop-number : goal.invariant-loop-number
invariant-loop-number l =
    (1 ≤ l.number) × All (IsChip l.domains []) l.chips.items
    × (chips_of l.chips.items ≡ map first_chip (filter (λ k. has_chip l.domains k) (take (l.number - 1) (1 ∷ 2 ∷ 3 ∷ 4 ∷ []))))
