use Rattle.std.proofs.Common.{◌-◌, ℕ, length, ap, ◌∙◌, arith}
use Rattle.std.specs.List.{sum_by}
use Rattle.br_model.specs.Plane.Chip.{Chip}
use Rattle.br_model.specs.Table.Cut.{deferred_count}
use Rattle.plane_parts.proofs.Placing.{count}
use Rattle.check_world.specs.Cuts.{CutState}
use Rattle.check_world.specs.Sides.{SidesState}
use Rattle.br_model.proofs.Table.ChipLists.{sum-chips}
use Rattle.check_world.proofs.sides.Sides.pending.Goals as goal

pub pending-requires-clause-applied : goal.pending-requires-clause-applied
pending-requires-clause-applied c k d within =
    let b = c.self.inside.bridge in
    omega (arith, c.len.ensures.value, ap length c.self.invariant.places, count b.setup.domains.edition b.history, (c.self.invariant.follows.each k d within).applied)

pub returns : goal.returns
returns c =
    let b = c.self.inside.bridge in
    c.pending.ensures
    ∙ ap (λ (n : ℕ). sum_by (λ (s : CutState). n - s.chip.count) c.self.inside.cuts) (c.len.ensures.value ∙ ap length c.self.invariant.places ∙ count b.setup.domains.edition b.history)
    ∙ sum-chips (λ (s : CutState). s.chip) (λ (x : Chip). deferred_count b.setup.domains.edition b.history - x.count) c.self.inside.cuts
    ∙ ap (λ (s : SidesState). sum_by (λ (x : Chip). deferred_count s.setup.domains.edition s.history - x.count) s.chips) c.self.view_is
