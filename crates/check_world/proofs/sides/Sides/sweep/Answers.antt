use Rattle.std.proofs.Common.{◌≡◌, [], List, sym, ap, ap₂, ◌∙◌}
use Rattle.br_model.specs.declared.steps.Event.TheVariants.{Forget}
use Rattle.br_model.specs.Plane.Chip.{Chip, chip_table, unhit}
use Rattle.br_model.specs.Plane.ChipSteps.{sweeps}
use Rattle.br_model.specs.Control.Learning.{Triple}
use Rattle.br_model.specs.Plane.World.{World, Stepped, answered, reacts, with_chip}
use Rattle.br_model.specs.Table.Domains.{Domains}
use Rattle.br_model.specs.Table.Table.{Table}
use Rattle.plane_parts.proofs.Adding.{added_as, from_none}
use Rattle.check_world.specs.Sides.{SidesState, world_of, of_sides}
use Rattle.check_world.proofs.CutChanges.{cut_found, found_at, there_at}
use Rattle.plane_reactions.proofs.Reacting.{ended_behind}
use Rattle.check_world.proofs.sides.Sides.sweep.Goals as goal

pub at-requires : goal.at-requires
at-requires c = there_at c.self.inside.cuts c.args.self.now.chips c.args.d (ap (λ (s : SidesState). s.chips) c.self.view_is) c.requires

-- with these stations
swept : Chip → World → List Triple → Stepped
swept c w xs = answered w (with_chip w (record c { hits = [] })) (reacts w (Forget xs))

pub returns : goal.returns
unfolding swept
returns c =
    let s = c.args.self.now in
    let b = c.self.inside.bridge in
    let x = c.at.result.now in
    let here = found_at c.self.inside.cuts s.chips c.args.d x (ap (λ (t : SidesState). t.chips) c.self.view_is) c.at.ensures in
    let cut = cut_found b.setup.domains b.history c.self.inside.cuts c.args.d x c.self.invariant.follows c.at.ensures in
    let gone : c.in_ok-stations.stations ≡ unhit s.setup.domains (chip_table s.setup.domains.edition s.history x.chip) x.chip =
    c.in_ok-stations.ensures ∙ ap₂ (λ (d : Domains) (t : Table). unhit d t x.chip) c.domains.ensures cut.table
    ∙ ap (λ (t : SidesState). unhit t.setup.domains (chip_table t.setup.domains.edition t.history x.chip) x.chip) c.self.view_is in
    added_as _ _ _ _ (λ ls h q. ap (sweeps (world_of s q c.args.step)) here ∙ ap (swept x.chip (world_of s q c.args.step)) (sym gone) ∙ h q)
    (ended_behind of_sides s c.react_to_sweep-outcome.new.self _ c.args.lines.now.lines [] _ _ _ c.args.step c.react_to_sweep-outcome.result _ _ _
    (from_none _ _ c.in_ok-reserve.ensures.lines) (c.react_to_sweep-outcome.ensures.reacted x.chip here) c.last_line.ensures.lasts c.in_ok-last_line.was c.push_reserved.ensures.lines)
