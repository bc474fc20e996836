use Rattle.std.proofs.Common.{slice_get, sym, ap, ◌∙◌}
use Rattle.br_model.specs.Plane.Chip.{Chip}
use Rattle.br_model.specs.Table.Change.{updates}
use Rattle.br_model.proofs.Plane.ByDomain.{same_chip}
use Rattle.plane_core.specs.Sides.{SidesState}
use Rattle.plane_parts.specs.Places.{places}
use Rattle.plane_core.proofs.Changing.{found_at, there_at}
use Rattle.plane_core.proofs.sides.Sides.next_update.Goals as goal

pub at-requires : goal.at-requires
at-requires c = there_at c.self.inside.chips c.args.self.now.chips c.args.d (ap (λ (s : SidesState). s.chips) c.self.view_is) c.requires

pub next_update-requires : goal.next_update-requires
next_update-requires c =
    let e = c.self.inside.bridge.setup.domains.edition in (e, c.self.invariant.places ∙ ap (places e) (sym c.history.ensures.value))

pub returns : goal.returns
returns c x is =
    let s = c.args.self.now in
    let e = c.self.inside.bridge.setup.domains.edition in
    let y = c.at.result.now in
    let same = same_chip s.chips c.args.d x y.chip is (found_at c.self.inside.chips s.chips c.args.d y (ap (λ (t : SidesState). t.chips) c.self.view_is) c.at.ensures) in
    c.next_update.ensures e (c.self.invariant.places ∙ ap (places e) (sym c.history.ensures.value))
    ∙ ap (λ h. slice_get (updates e h) y.chip.count) c.history.ensures.value
    ∙ ap (λ (t : SidesState). slice_get (updates t.setup.domains.edition t.history) y.chip.count) c.self.view_is
    ∙ ap (λ (z : Chip). slice_get (updates s.setup.domains.edition s.history) z.count) (sym same)
