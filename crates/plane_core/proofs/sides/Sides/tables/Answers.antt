use Rattle.std.proofs.Common.{sym, ap, subst}
use Rattle.br_model.specs.Plane.Chip.{Chip, chip_table}
use Rattle.br_model.proofs.Plane.ByDomain.{same_chip}
use Rattle.chip_tables.specs.Rows.{Rows}
use Rattle.chip_tables.specs.Stands.{Stands}
use Rattle.plane_core.specs.Sides.{SidesState}
use Rattle.plane_core.proofs.Changing.{found_at, stands_at, there_at}
use Rattle.plane_core.proofs.sides.Sides.tables.Goals as goal

pub at-requires : goal.at-requires
at-requires c = there_at c.self.inside.chips c.args.self.now.chips c.args.d (ap (λ (s : SidesState). s.chips) c.self.view_is) c.requires

pub returns : goal.returns
returns c x is =
    let b = c.self.inside.bridge in
    let domains = b.setup.domains in
    let y = c.at.result.now in
    let there = stands_at b c.self.inside.chips c.self.inside.updates c.self.inside.board c.self.invariant c.args.d y c.at.ensures in
    let same = same_chip c.args.self.now.chips c.args.d x y.chip is (found_at c.self.inside.chips c.args.self.now.chips c.args.d y (ap (λ (s : SidesState). s.chips) c.self.view_is) c.at.ensures) in
    subst (λ (s : SidesState). Stands s.setup.domains c.args.d c.tables.result.now (chip_table s.setup.domains.edition s.history x)) c.self.view_is
    (subst (λ (z : Chip). Stands domains c.args.d c.tables.result.now (chip_table domains.edition b.history z)) (sym same)
    (subst (λ (r : Rows). Stands domains c.args.d r (chip_table domains.edition b.history y.chip)) (sym c.tables.ensures) there))
