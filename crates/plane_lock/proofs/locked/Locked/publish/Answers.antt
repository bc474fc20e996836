use Rattle.br_model.specs.declared.steps.Step.TheVariants.{Publish}
use Rattle.br_model.proofs.Plane.Still.{publish-history}
use Rattle.plane_record.specs.Pasts.{world_of}
use Rattle.plane_lock.proofs.Settling.{keeps}
use Rattle.plane_lock.proofs.locked.Locked.publish.Goals as goal

pub invariant_of-self : goal.invariant_of-self
invariant_of-self g c =
    keeps c.publish.result c.self.inside.ran c.publish.new.self Publish g.N.Name.board g.N.Name.own c.self.inside.posters.items c.publish.ensures.ok c.publish.ensures.err
    (publish-history (world_of c.self.inside.ran)) c.self.invariant
