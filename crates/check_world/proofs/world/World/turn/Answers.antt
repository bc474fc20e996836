use Rattle.std.proofs.Common.{ap, ◌∙◌}
use Rattle.std.specs.Prelude.{is_some}
use Rattle.br_model.specs.Plane.World.{World, chip_at}
use Rattle.br_model.specs.declared.steps.Step.TheVariants.{Turn}
use Rattle.plane_parts.proofs.Adding.{added_as}
use Rattle.check_world.proofs.Worlds.{tells_so}
use Rattle.check_world.proofs.world.World.turn.Goals as goal

pub turn-requires : goal.turn-requires
turn-requires c = ap (λ (o : World). is_some (chip_at o c.args.d)) c.self.view_is ∙ c.requires

pub returns : goal.returns
returns c =
    let x = c.self.inside in
    added_as _ _ _ _
    (λ told h. tells_so c.args.self.now x.sides c.turn.new.self x.frames x.frames x.steps c.in_ok-step.step (Turn c.args.d) told c.self.view_is c.in_ok-step.ensures (h x.frames)) c.in_ok-turn.ensures
