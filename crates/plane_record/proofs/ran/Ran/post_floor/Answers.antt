use Rattle.std.proofs.Common.{None, Some, ◌≡◌, refl, sym, subst}
use Rattle.br_model.specs.declared.steps.Step.TheVariants.{Post}
use Rattle.br_model.specs.Plane.Serving.{held_with}
use Rattle.br_model.specs.Plane.World.{Holding}
use Rattle.plane_core.specs.Planes.{DecidesFloor, PlaneState}
use Rattle.plane_record.proofs.Recording.{Recorded, recorded, stood}
use Rattle.plane_record.proofs.ran.Ran.post_floor.Goals as goal

-- the plane is the one of the past
pub post_floor_to-requires : goal.post_floor_to-requires
post_floor_to-requires c =
    subst (λ (s : PlaneState). (x : Holding) → held_with s.world c.args.id ≡ Some x → DecidesFloor s.world x c.args.verdict)
    (sym (stood c.self.inside.plane c.self.inside.steps.items c.self.inside.lines.lines c.args.self.now c.self.invariant c.self.view_is)) c.requires

done : (c : goal.After-write_down) → Recorded c.post_floor_to.new.self c.write_down.new.steps.items (Post c.args.id None) c.write_down.new.lines.lines c.write_down.result.lines c.args.self.now
done c =
    let ready = c.make_ready in
    let down = c.write_down in
    recorded c.self.inside.plane c.post_floor_to.new.self c.self.inside.steps.items ready.new.steps.items down.new.steps.items (Post c.args.id None)
    c.self.inside.lines ready.new.lines c.post_floor_to.new.lines down.new.lines down.result.lines c.args.self.now c.self.invariant c.self.view_is
    ready.ensures.steps ready.ensures.lines ready.ensures.saved
    c.in_ok-post_floor_to.ensures.ok c.in_ok-post_floor_to.ensures.saved
    down.ensures.steps down.ensures.lines down.ensures.said refl

pub invariant_of-self-2 : goal.invariant_of-self-2
invariant_of-self-2 c = (done c).ran

pub returns-clause-ok : goal.returns-clause-ok
returns-clause-ok c = (done c).reached

pub returns-clause-lines : goal.returns-clause-lines
returns-clause-lines c = (done c).said
