use Rattle.std.proofs.Common.{Some, option_map, sym, ap, ◌∙◌}
use Rattle.br_model.specs.Plane.Chip.{Chip}
use Rattle.check_world.specs.Sides.{SidesState}
use Rattle.check_world.proofs.CutChanges.{found_at, there_at}
use Rattle.check_world.proofs.sides.Sides.applied.Goals as goal

pub at-requires : goal.at-requires
at-requires c = there_at c.self.inside.cuts c.args.self.now.chips c.args.d (ap (λ (s : SidesState). s.chips) c.self.view_is) c.requires

pub returns : goal.returns
returns c =
    ap (option_map (λ (x : Chip). x.count)) (found_at c.self.inside.cuts c.args.self.now.chips c.args.d c.at.result.now (ap (λ (s : SidesState). s.chips) c.self.view_is) c.at.ensures)
    ∙ ap Some (sym c.count.ensures)
