use Rattle.std.proofs.Common.{sym, ap, ◌∙◌}
use Rattle.std.specs.Prelude.{is_some}
use Rattle.br_model.specs.Plane.Chip.{chip_in}
use Rattle.check_world.specs.Cuts.{CutState}
use Rattle.check_world.specs.Sides.{SidesState}
use Rattle.br_model.proofs.Table.ChipLists.{some-found}
use Rattle.check_world.proofs.sides.Sides.has_chip.Goals as goal

pub returns : goal.returns
returns c = c.has.ensures ∙ sym (some-found (λ (s : CutState). s.chip) c.self.inside.cuts c.args.d) ∙ ap (λ (s : SidesState). is_some (chip_in s.chips c.args.d)) c.self.view_is
