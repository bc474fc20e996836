use Rattle.std.proofs.Common.{◌-◌, ℕ, ap, ◌∙◌, arith}
use Rattle.std.specs.List.{sum_by}
use Rattle.br_model.specs.Plane.Chip.{Chip}
use Rattle.br_model.specs.Table.Cut.{deferred_count}
use Rattle.hwdom_chips.specs.Chips.{ChipState}
use Rattle.plane_core.specs.Sides.{SidesState}
use Rattle.br_model.proofs.Table.ChipLists.{sum-chips}
use Rattle.plane_core.proofs.Changing.{counted}
use Rattle.plane_core.proofs.sides.Sides.pending_of_all.Goals as goal

pub pending-requires-clause-applied : goal.pending-requires-clause-applied
pending-requires-clause-applied c k d within =
    omega (arith, c.len.ensures.value, counted c.self.inside.bridge c.self.inside.updates c.self.invariant.places, (c.self.invariant.follows.each k d within).applied)

pub returns : goal.returns
returns c =
    c.pending.ensures
    ∙ ap (λ (n : ℕ). sum_by (λ (s : ChipState). n - s.chip.count) c.self.inside.chips) (c.len.ensures.value ∙ counted c.self.inside.bridge c.self.inside.updates c.self.invariant.places)
    ∙ sum-chips (λ (s : ChipState). s.chip) (λ (x : Chip). deferred_count c.self.inside.bridge.setup.domains.edition c.self.inside.bridge.history - x.count) c.self.inside.chips
    ∙ ap (λ (s : SidesState). sum_by (λ (x : Chip). deferred_count s.setup.domains.edition s.history - x.count) s.chips) c.self.view_is
