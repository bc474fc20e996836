use Rattle.std.proofs.Common.{◌≡◌, [], List, sym, ap, ◌∙◌}
use Rattle.lemmas.proofs.Endings.{OnErr_from}
use Rattle.br_model.specs.declared.steps.Event.TheVariants.{Forget}
use Rattle.br_model.specs.Plane.Chip.{Chip, chip_table, unhit}
use Rattle.br_model.specs.Plane.ChipSteps.{sweeps}
use Rattle.br_model.specs.Control.Learning.{Triple}
use Rattle.br_model.specs.Plane.World.{World, Stepped, answered, reacts, with_chip}
use Rattle.plane_core.specs.Sides.{SidesState, world_of, of_sides}
use Rattle.plane_parts.proofs.Adding.{added_as, from_none}
use Rattle.plane_core.proofs.Changing.{chip_found, found_at, there_at}
use Rattle.plane_reactions.proofs.Reacting.{ended_behind, not_ended}
use Rattle.plane_core.proofs.Reacting.{same_board}
use Rattle.plane_core.proofs.sides.Sides.sweep.Goals as goal

pub at-requires : goal.at-requires
at-requires c = there_at c.self.inside.chips c.args.self.now.chips c.args.d (ap (λ (s : SidesState). s.chips) c.self.view_is) c.requires

-- with these stations
swept : Chip → World → List Triple → Stepped
swept c w xs = answered w (with_chip w (record c { hits = [] })) (reacts w (Forget xs))

pub returns-clause-ok : goal.returns-clause-ok
unfolding swept
returns-clause-ok c =
    let s = c.args.self.now in
    let x = c.at.result.now in
    let here = found_at c.self.inside.chips s.chips c.args.d x (ap (λ (t : SidesState). t.chips) c.self.view_is) c.at.ensures in
    let rows = (chip_found c.self.inside.bridge c.self.inside.chips c.self.inside.updates c.self.inside.board c.self.invariant c.args.d x c.at.ensures).rows in
    let gone : c.in_ok-unhit.field-0 ≡ unhit s.setup.domains (chip_table s.setup.domains.edition s.history x.chip) x.chip =
    c.in_ok-unhit.ensures _ _ rows ∙ ap (λ (t : SidesState). unhit t.setup.domains (chip_table t.setup.domains.edition t.history x.chip) x.chip) c.self.view_is in
    added_as _ _ _ _ (λ ls h q. ap (sweeps (world_of s q c.args.step)) here ∙ ap (swept x.chip (world_of s q c.args.step)) (sym gone) ∙ h q)
    (ended_behind of_sides s c.react_to_sweep-outcome.new.self _ c.args.lines.now.lines [] _ _ _ c.args.step c.react_to_sweep-outcome.result _ _ _
    (from_none _ _ c.in_ok-reserve.ensures.lines) (c.react_to_sweep-outcome.ensures.reacted x.chip here) c.last_line.ensures.lasts c.in_ok-last_line.was c.push_reserved.ensures.lines)

-- there is no memory for the last line

pub returns-in_err-last_line-clause-err : goal.returns-in_err-last_line-clause-err
returns-in_err-last_line-clause-err c =
    let x = c.at.result.now in
    let here = found_at c.self.inside.chips c.args.self.now.chips c.args.d x (ap (λ (t : SidesState). t.chips) c.self.view_is) c.at.ensures in
    let back = not_ended of_sides c.args.self.now c.react_to_sweep-outcome.new.self _ _ _ c.args.step c.react_to_sweep-outcome.result c.last_line.result _ _
    (c.react_to_sweep-outcome.ensures.reacted x.chip here) c.last_line.ensures.lasts c.in_err-last_line.was in
    OnErr_from c.from_residual-in_err-last_line.result back.0

pub returns-in_err-last_line-clause-lines : goal.returns-in_err-last_line-clause-lines
returns-in_err-last_line-clause-lines c =
    let x = c.at.result.now in
    let here = found_at c.self.inside.chips c.args.self.now.chips c.args.d x (ap (λ (t : SidesState). t.chips) c.self.view_is) c.at.ensures in
    let back = not_ended of_sides c.args.self.now c.react_to_sweep-outcome.new.self _ _ _ c.args.step c.react_to_sweep-outcome.result c.last_line.result _ _
    (c.react_to_sweep-outcome.ensures.reacted x.chip here) c.last_line.ensures.lasts c.in_err-last_line.was in
    OnErr_from c.from_residual-in_err-last_line.result (back.1 ∙ c.in_ok-reserve.ensures.lines)

pub returns-in_err-last_line-clause-over : goal.returns-in_err-last_line-clause-over
returns-in_err-last_line-clause-over c =
    let x = c.at.result.now in
    let here = found_at c.self.inside.chips c.args.self.now.chips c.args.d x (ap (λ (t : SidesState). t.chips) c.self.view_is) c.at.ensures in
    let back = not_ended of_sides c.args.self.now c.react_to_sweep-outcome.new.self _ _ _ c.args.step c.react_to_sweep-outcome.result c.last_line.result _ _
    (c.react_to_sweep-outcome.ensures.reacted x.chip here) c.last_line.ensures.lasts c.in_err-last_line.was in
    ap (λ (s : SidesState). s.board) back.0

pub returns-clause-over : goal.returns-clause-over
returns-clause-over c =
    let x = c.at.result.now in
    let here = found_at c.self.inside.chips c.args.self.now.chips c.args.d x (ap (λ (t : SidesState). t.chips) c.self.view_is) c.at.ensures in
    same_board c.args.self.now c.react_to_sweep-outcome.new.self _ _ _ c.react_to_sweep-outcome.result _ (c.react_to_sweep-outcome.ensures.reacted x.chip here)
