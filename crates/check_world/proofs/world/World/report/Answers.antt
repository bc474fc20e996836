use Rattle.std.proofs.Common.{ap, ◌∙◌}
use Rattle.std.specs.Prelude.{is_some}
use Rattle.br_model.specs.Plane.World.{World, chip_at}
use Rattle.br_model.specs.declared.steps.Step.TheVariants.{Report}
use Rattle.plane_parts.proofs.Adding.{added_as}
use Rattle.check_world.proofs.Worlds.{tells_so}
use Rattle.check_world.proofs.world.World.report.Goals as goal

pub report-requires : goal.report-requires
report-requires c = ap (λ (o : World). is_some (chip_at o c.args.d)) c.self.view_is ∙ c.requires

pub returns : goal.returns
returns c =
    let x = c.self.inside in
    added_as _ _ _ _
    (λ told h. tells_so c.args.self.now x.sides c.report.new.self x.frames x.frames x.steps c.in_ok-step.step (Report c.args.d) told c.self.view_is c.in_ok-step.ensures (h x.frames))
    c.in_ok-report.ensures
