-- Turns, as steps of the world.
use Rattle.std.proofs.Common.{◌≡◌, ℕ, [], ◌∷◌, slice_get, None, Some, sym, ap, ◌∙◌}
use Rattle.lemmas.proofs.Endings.{option_map-none}
use Rattle.br_model.specs.declared.change.Update.{Update}
use Rattle.br_model.specs.declared.steps.Refusal.TheVariants.{NothingPending}
use Rattle.br_model.specs.declared.transcript.Line.TheVariants as lines
use Rattle.br_model.specs.Plane.Chip.{Chip, applies, chip_in, put_chip}
use Rattle.br_model.specs.Plane.ChipSteps.{turns, turns_to}
use Rattle.br_model.specs.Plane.World.{chip_at}
use Rattle.br_model.specs.Table.Change.{updates}
use Rattle.br_model.specs.Table.Cut.{deferred_at, under_ticket}
use Rattle.br_model.proofs.Table.Cuts.{updates-at, updates-named}
use Rattle.plane_parts.specs.Queued.{Queued}
use Rattle.check_world.specs.Sides.{SidesState, world_of}

-- none is pending
pub turns_none : (s : SidesState) (q : Queued) (dom m : ℕ) (c : Chip) → chip_in s.chips dom ≡ Some c → slice_get (updates s.setup.domains.edition s.history) c.count ≡ None
    → turns (world_of s q m) (chip_at (world_of s q m) dom) ≡ (world_of s q m, lines.Refused m NothingPending ∷ [])
turns_none s q dom m c found none =
    ap (turns (world_of s q m)) found
    ∙ ap (turns_to (world_of s q m) c)
    (option_map-none (under_ticket c.count) (deferred_at s.setup.domains.edition s.history c.count) (sym (updates-at s.setup.domains.edition s.history c.count) ∙ none))

-- this one is
pub turns_one : (s t : SidesState) (q : Queued) (dom m : ℕ) (c : Chip) (u : Update) → chip_in s.chips dom ≡ Some c → slice_get (updates s.setup.domains.edition s.history) c.count ≡ Some u
    → t ≡ record s { chips = put_chip s.chips (applies c u.change) } → turns (world_of s q m) (chip_at (world_of s q m) dom) ≡ (world_of t q m, lines.Done m 0 ∷ [])
turns_one s t q dom m c u found next is =
    ap (turns (world_of s q m)) found ∙ ap (turns_to (world_of s q m) c) (updates-named s.setup.domains.edition s.history c.count u next).1
    ∙ ap (λ (x : SidesState). (world_of x q m, lines.Done m 0 ∷ [])) (sym is)
