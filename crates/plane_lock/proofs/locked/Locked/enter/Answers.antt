use Rattle.br_model.specs.declared.steps.Step.TheVariants.{Rx}
use Rattle.br_model.proofs.Plane.Still.{rx-history}
use Rattle.plane_record.specs.Pasts.{world_of}
use Rattle.plane_lock.proofs.Settling.{keeps}
use Rattle.plane_lock.proofs.locked.Locked.enter.Goals as goal

pub invariant_of-self : goal.invariant_of-self
invariant_of-self g c =
    keeps c.enter.result c.self.inside.ran c.enter.new.self (Rx c.args.p c.args.b.now) g.N.Name.board g.N.Name.own c.self.inside.posters.items c.enter.ensures.ok c.enter.ensures.err
    (rx-history (world_of c.self.inside.ran) c.args.p c.args.b.now) c.self.invariant
