use Rattle.std.proofs.Common.{[], ◌∷◌, ap}
use Rattle.br_model.specs.declared.steps.Step.TheVariants.{Publish}
use Rattle.br_model.specs.declared.transcript.Line.TheVariants.{Done}
use Rattle.br_model.specs.Plane.World.{done}
use Rattle.check_world.proofs.Worlds.{tells_so}
use Rattle.check_world.proofs.world.World.publish.Goals as goal

pub returns : goal.returns
returns c =
    let x = c.self.inside in
    let m = c.in_ok-step.step in
    record {
      lines = Done m 0 ∷ [];
      so = tells_so c.args.self.now x.sides c.publish.new.self x.frames x.frames x.steps m Publish (Done m 0 ∷ []) c.self.view_is c.in_ok-step.ensures (ap done (c.in_ok-publish.ensures x.frames m));
      added = c.in_ok-push.ensures.ok;
    }
