use Rattle.std.proofs.Common.{sym, subst}
use Rattle.br_model.specs.declared.steps.Step.TheVariants.{Hold}
use Rattle.br_model.proofs.Plane.Still.{hold-history}
use Rattle.plane_core.specs.Planes.{published_in}
use Rattle.table_publish.specs.Object.{Begins}
use Rattle.plane_record.specs.Pasts.{Past, world_of}
use Rattle.plane_lock.proofs.Posting.{floors}
use Rattle.plane_lock.proofs.Settling.{IsLocked, keeps}
use Rattle.plane_lock.proofs.locked.Locked.open_as.Goals as goal

pub invariant_of-self-2 : goal.invariant_of-self-2
invariant_of-self-2 g c =
    keeps c.open_frame.result c.tell.new.self c.open_frame.new.self Hold g.N.Name.board g.N.Name.own c.self.inside.posters.items c.open_frame.ensures.ok c.open_frame.ensures.err
    (hold-history (world_of c.tell.new.self)) (subst (λ (p : Past). IsLocked g.N.Name.board g.N.Name.own p c.self.inside.posters.items) (sym c.tell.ensures.same) c.self.invariant)

pub returns-clause-floor : goal.returns-clause-floor
returns-clause-floor g c =
    floors c.open_frame.result c.tell.new.self c.tell.new.s.object
    (subst (λ (p : Past). Begins c.tell.new.s.object (published_in (world_of p))) (sym c.tell.ensures.same) c.tell.ensures.told) c.open_frame.ensures.held
