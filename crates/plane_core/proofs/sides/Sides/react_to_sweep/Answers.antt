use Rattle.std.proofs.Common.{[], refl, ap, ◌∙◌}
use Rattle.std.specs.Prelude.{is_some}
use Rattle.std.proofs.lemmas.Option.{slice_get_within}
use Rattle.br_model.specs.Plane.Chip.{Chip, chip_in}
use Rattle.plane_core.specs.Sides.{SidesState}
use Rattle.plane_core.proofs.Changing.{reacted_told, sides_told, there_at}
use Rattle.plane_core.proofs.sides.Sides.react_to_sweep.Goals as goal

pub place-place-requires : goal.place-place-requires
place-place-requires c =
    there_at c.self.inside.chips c.react.new.self.chips c.args.d (ap (λ (s : SidesState). s.chips) c.self.view_is)
    (ap (λ (s : SidesState). is_some (chip_in s.chips c.args.d)) c.in_ok-changes.ensures.reacted.3 ∙ c.requires.chip)

pub at_mut-requires : goal.at_mut-requires
at_mut-requires c = slice_get_within c.self.inside.chips c.place-place.result c.place-place.ensures.0 c.place-place.ensures.2

-- what is left of the chip
abbrev left : Chip → Chip
left x = record x { hits = [] }

pub invariant_of-self : goal.invariant_of-self
invariant_of-self c =
    sides_told c.self.inside.bridge c.self.inside.chips c.self.inside.updates c.self.inside.board c.self.invariant c.place-place.result c.at_mut.result.now c.clear_hits.new.self c.at_mut.ensures.value
    left (λ x. (refl, refl)) c.clear_hits.ensures

pub returns-clause-reacted : goal.returns-clause-reacted
returns-clause-reacted c x at =
    reacted_told c.self.inside.bridge c.self.inside.chips c.self.inside.updates c.self.inside.board c.self.invariant c.place-place.result c.at_mut.result.now c.clear_hits.new.self
    c.at_mut.ensures.value
    left (λ y. (refl, refl)) c.clear_hits.ensures c.args.self.now c.react.new.self c.args.d x _ _ _ _ c.in_ok-changes.ensures.reacted c.self.view_is c.place-place.ensures at
