use Rattle.std.proofs.Common.{◌-◌, ℕ, Some, option_map, refl, sym, ap, ap₂, ◌∙◌, arith}
use Rattle.br_model.specs.Plane.Chip.{Chip, chip_in}
use Rattle.br_model.specs.Table.Cut.{deferred_count}
use Rattle.hwdom_chips.specs.Chips.{chips_of}
use Rattle.plane_core.specs.Sides.{SidesState}
use Rattle.plane_core.proofs.Changing.{chip_found, counted, found_at, there_at}
use Rattle.plane_core.proofs.sides.Sides.pending.Goals as goal

pub at-requires : goal.at-requires
at-requires c = there_at c.self.inside.chips c.args.self.now.chips c.args.d (ap (λ (s : SidesState). s.chips) c.self.view_is) c.requires

pub overflow_sub-result : goal.overflow_sub-result
overflow_sub-result c =
    omega (
      arith,
      c.len.ensures.value,
      c.count.ensures,
      counted c.self.inside.bridge c.self.inside.updates c.self.invariant.places,
      (chip_found c.self.inside.bridge c.self.inside.chips c.self.inside.updates c.self.inside.board c.self.invariant c.args.d c.at.result.now c.at.ensures).applied,
    )

pub returns : goal.returns
returns c =
    let b = c.self.inside.bridge in
    let states = c.self.inside.chips in
    ap (λ (s : SidesState). option_map (λ (x : Chip). deferred_count s.setup.domains.edition s.history - x.count) (chip_in s.chips c.args.d)) (sym c.self.view_is)
    ∙ ap (option_map (λ (x : Chip). deferred_count b.setup.domains.edition b.history - x.count)) (found_at states (chips_of states) c.args.d c.at.result.now refl c.at.ensures)
    ∙ ap₂ (λ (n k : ℕ). Some (n - k)) (sym (c.len.ensures.value ∙ counted b c.self.inside.updates c.self.invariant.places)) (sym c.count.ensures)
