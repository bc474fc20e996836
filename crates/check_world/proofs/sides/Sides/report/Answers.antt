use Rattle.std.proofs.Common.{[], ◌∷◌, ◌++◌, sym, ap, ◌∙◌}
use Rattle.br_model.specs.declared.steps.Refusal.TheVariants.{NothingReported}
use Rattle.br_model.specs.declared.transcript.Line.TheVariants.{Refused}
use Rattle.plane_parts.proofs.Adding.{added_as, from_none}
use Rattle.check_world.specs.Sides.{SidesState, of_sides, world_of}
use Rattle.check_world.proofs.CutChanges.{found_at, there_at}
use Rattle.plane_reactions.proofs.Reacting.{ended_behind}
use Rattle.br_model.proofs.Plane.Reports.{reports_first, reports_none}
use Rattle.check_world.proofs.sides.Sides.report.Goals as goal

pub at-requires : goal.at-requires
at-requires c = there_at c.self.inside.cuts c.args.self.now.chips c.args.d (ap (λ (s : SidesState). s.chips) c.self.view_is) c.requires

pub returns-in_default : goal.returns-in_default
returns-in_default c =
    let s = c.args.self.now in
    let x = c.at.result.now in
    let here = found_at c.self.inside.cuts s.chips c.args.d x (ap (λ (t : SidesState). t.chips) c.self.view_is) c.at.ensures in
    record {
      lines = Refused c.args.step NothingReported ∷ [];
      so = λ q. reports_none (world_of s q c.args.step) c.args.d x.chip here (sym c.in_default.is ∙ c.first_report.ensures);
      added = c.push_reserved.ensures.lines ∙ ap (λ ls. ls ++ Refused c.args.step NothingReported ∷ []) c.in_ok-reserve.ensures.lines;
    }

pub returns : goal.returns
returns c =
    let s = c.args.self.now in
    let x = c.at.result.now in
    let here = found_at c.self.inside.cuts s.chips c.args.d x (ap (λ (t : SidesState). t.chips) c.self.view_is) c.at.ensures in
    added_as _ _ _ _ (λ ls h q. reports_first (world_of s q c.args.step) c.args.d x.chip here _ c.in-Some.ensures ∙ h q)
    (ended_behind of_sides s c.react_to_report-outcome.new.self _ c.args.lines.now.lines [] _ _ _ c.args.step c.react_to_report-outcome.result _ _ _
    (from_none _ _ c.in_ok-reserve.ensures.lines) (c.react_to_report-outcome.ensures.reacted x.chip here) c.last_line.ensures.lasts c.in_ok-last_line.was c.push_reserved-2.ensures.lines)
