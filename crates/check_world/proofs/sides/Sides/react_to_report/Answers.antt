use Rattle.std.proofs.Common.{◌≡◌, drop, refl, ap, sym, subst, ◌∙◌}
use Rattle.std.specs.Prelude.{is_some}
use Rattle.br_model.specs.Plane.Chip.{Chip, chip_in, put_chip}
use Rattle.check_world.specs.Cuts.{CutState, KeepsTable, told_first}
use Rattle.check_world.specs.Sides.{SidesState}
use Rattle.check_world.proofs.CutChanges.{changed, changed_as, kept_sides, there_at}
use Rattle.check_world.proofs.sides.Sides.react_to_report.Goals as goal

pub drop_report-requires : goal.drop_report-requires
drop_report-requires c =
    there_at c.self.inside.cuts c.react.new.self.chips c.args.d (ap (λ (s : SidesState). s.chips) c.self.view_is)
    (ap (λ (s : SidesState). is_some (chip_in s.chips c.args.d)) c.in_ok-changes.ensures.reacted.3 ∙ c.requires.chip)

-- its table stays
keeps : (y : CutState) → KeepsTable y (told_first y)
keeps y = record { table = refl; dom = refl; count = refl }

pub invariant_of-self : goal.invariant_of-self
invariant_of-self c =
    let x = c.self.inside in
    kept_sides x.bridge x.cuts c.drop_report.new.self x.updates x.point c.args.d c.self.invariant
    (changed_as x.cuts c.drop_report.new.self c.args.d (λ y e. e ≡ told_first y) KeepsTable (λ y e is. subst (KeepsTable y) (sym is) (keeps y)) c.drop_report.ensures)

pub returns-clause-reacted : goal.returns-clause-reacted
returns-clause-reacted c chip at =
    let x = c.self.inside in
    let did = c.in_ok-changes.ensures.reacted in
    let f = λ (x : Chip). record x { reports = drop 1 x.reports } in
    let ch = c.drop_report.ensures in (
      did.0,
      did.1,
      did.2,
      changed x.bridge.setup.domains x.bridge.history x.cuts c.drop_report.new.self c.args.d
          (λ y e. e ≡ told_first y) ch c.self.invariant.follows x.bridge x.published x.counts.items c.react.new.self chip f c.self.view_is
          (ap (λ (s : SidesState). chip_in s.chips c.args.d) did.3 ∙ at) (ap (λ (s : CutState). s.chip.dom) ch.so) (ap (λ (s : CutState). s.chip) ch.so)
          ∙ ap (λ (s : SidesState). record s { chips = put_chip s.chips (f chip) }) did.3,
      did.4,
    )
