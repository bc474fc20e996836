use Rattle.std.proofs.Common.{◌≡◌, [], ◌∷◌, List, ℕ, map, ap, ◌∙◌, arith}
use Rattle.std.proofs.lemmas.List.{take_all}
use Rattle.std.specs.List.{filter}
use Rattle.br_model.specs.Plane.Chip.{first_chip, first_chips}
use Rattle.br_model.specs.Table.Domains.{has_chip}
use Rattle.hwdom_chips.specs.Chips.{ChipState, chips_of}
use Rattle.br_model.proofs.Table.ChipLists.{doms-first, existing}
use Rattle.hwdom_chips.proofs.chips.Chips.make.Goals as goal

-- all of them
whole : (c : goal.After-loop-number) → chips_of c.loop-number.chips.items ≡ first_chips c.args.domains.now
whole c = c.loop-number.invariant.2
    ∙ ap (λ (ks : List ℕ). map first_chip (filter (λ k. has_chip c.args.domains.now k) ks)) (take_all _ (1 ∷ 2 ∷ 3 ∷ 4 ∷ []) (omega (arith, c.loop-number-test.false)))
    ∙ ap (map first_chip) (existing c.args.domains.now)

pub returns-clause-stand : goal.returns-clause-stand
returns-clause-stand c = record { each = c.loop-number.invariant.1; doms = doms-first (λ (s : ChipState). s.chip) c.loop-number.chips.items _ (whole c) }

pub returns-clause-first : goal.returns-clause-first
returns-clause-first c = whole c
