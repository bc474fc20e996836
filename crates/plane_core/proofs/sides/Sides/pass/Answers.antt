use Rattle.std.proofs.Common.{◌≡◌, Some, refl, sym, ap, ◌∙◌, subst}
use Rattle.br_model.specs.Plane.Chip.{Chip, chip_table}
use Rattle.br_model.specs.Table.Domains.{Domains, domain_of, host, software}
use Rattle.br_model.proofs.Plane.ByDomain.{same_chip}
use Rattle.chip_pipeline.specs.Passed.{AtChip, IsPass}
use Rattle.chip_tables.specs.Rows.{Rows}
use Rattle.plane_core.specs.Sides.{SidesState}
use Rattle.plane_core.proofs.Changing.{at_chip, found_at, there_at}
use Rattle.plane_core.proofs.sides.Sides.pass.Goals as goal

pub at-requires : goal.at-requires
at-requires c = there_at c.self.inside.chips c.args.self.now.chips c.args.d (ap (λ (s : SidesState). s.chips) c.self.view_is) c.requires.chip

pub returns : goal.returns
returns c x is =
    let b = c.self.inside.bridge in
    let domains = b.setup.domains in
    let y = c.at.result.now in
    let t = chip_table domains.edition b.history y.chip in
    let on : domain_of domains c.args.port ≡ Some c.args.d = ap (λ (s : SidesState). domain_of s.setup.domains c.args.port) c.self.view_is ∙ c.requires.port in
    let outside : domain_of domains host ≡ Some software = ap (λ (d : Domains). domain_of d host) (sym c.domains.ensures) ∙ sym c.of-host.ensures.value ∙ c.of-host.ensures.host refl in
    let there = at_chip b c.self.inside.chips c.self.inside.updates c.self.inside.board c.self.invariant c.args.d y c.at.ensures c.args.port on outside in
    let same = same_chip c.args.self.now.chips c.args.d x y.chip is (found_at c.self.inside.chips c.args.self.now.chips c.args.d y (ap (λ (s : SidesState). s.chips) c.self.view_is) c.at.ensures) in
    subst (λ (s : SidesState). IsPass s.setup.domains (chip_table s.setup.domains.edition s.history x) c.args.port c.args.head.now c.args.message.now c.pass.result) c.self.view_is
    (subst (λ (z : Chip). IsPass domains (chip_table domains.edition b.history z) c.args.port c.args.head.now c.args.message.now c.pass.result) (sym same)
    (c.pass.ensures domains c.args.d t (subst (λ (r : Rows). AtChip domains c.args.d r t c.args.port) (sym c.tables.ensures) there)))
