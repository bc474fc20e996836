use Rattle.std.proofs.Common.{◌≡◌, ◌-◌, ◌≤◌, [], ◌∷◌, take}
use Rattle.std.specs.List.{filter}
use Rattle.br_model.specs.Table.Domains.{has_chip}
use Rattle.live_workers.proofs.queues.chips_of.Given as goal

abbrev pub invariant-loop-number : goal.invariant-loop-number
invariant-loop-number l = (1 ≤ l.number) × (l.chips ≡ filter (λ d. has_chip l.domains d) (take (l.number - 1) (1 ∷ 2 ∷ 3 ∷ 4 ∷ [])))
