use Rattle.std.proofs.Common.{Some, option_map, slice_get, sym, ap, ◌∙◌}
use Rattle.br_model.specs.Plane.Chip.{Chip}
use Rattle.plane_core.specs.Sides.{SidesState}
use Rattle.plane_core.proofs.Changing.{found_at, there_at}
use Rattle.plane_core.proofs.sides.Sides.first_report.Goals as goal

pub at-requires : goal.at-requires
at-requires c = there_at c.self.inside.chips c.args.self.now.chips c.args.d (ap (λ (s : SidesState). s.chips) c.self.view_is) c.requires

pub returns : goal.returns
returns c =
    ap (option_map (λ (x : Chip). slice_get x.reports 0)) (found_at c.self.inside.chips c.args.self.now.chips c.args.d c.at.result.now (ap (λ (s : SidesState). s.chips) c.self.view_is) c.at.ensures)
    ∙ ap Some (sym c.first_report.ensures)
