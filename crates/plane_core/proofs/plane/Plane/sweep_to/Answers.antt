use Rattle.std.proofs.Common.{refl, ap, ◌∙◌}
use Rattle.br_model.specs.declared.steps.Step.TheVariants.{Sweep}
use Rattle.br_model.specs.Table.Domains.{has_chip}
use Rattle.plane_core.specs.Planes.{PlaneState}
use Rattle.plane_core.specs.Sides.{world_of}
use Rattle.plane_parts.proofs.Adding.{added_as}
use Rattle.plane_core.proofs.Calling.{chip_there, stands_after, steps_so}
use Rattle.plane_core.proofs.plane.Plane.sweep_to.Goals as goal

pub sweep-requires : goal.sweep-requires
sweep-requires c =
    chip_there (world_of c.self.inside.sides c.self.inside.frames c.self.inside.steps) c.args.dom c.self.invariant
    (ap (λ (p : PlaneState). has_chip p.world.setup.domains c.args.dom) c.self.view_is ∙ c.requires)

pub invariant_of-self-2 : goal.invariant_of-self-2
invariant_of-self-2 c =
    let q = c.self.inside.frames in
    stands_after c.self.inside.sides c.sweep.new.self q q c.self.inside.steps c.in_ok-step.step (Sweep c.args.dom) _ c.in_ok-step.ensures (c.in_ok-sweep.ensures.ok.so q) c.self.invariant

pub returns-clause-ok : goal.returns-clause-ok
returns-clause-ok c =
    let q = c.self.inside.frames in
    let m = c.in_ok-step.step in
    added_as _ _ _ _ (λ ls h.
    steps_so c.args.self.now c.self.inside.sides c.sweep.new.self q q c.self.inside.steps m (Sweep c.args.dom) _ _ c.self.view_is c.in_ok-step.ensures (h q) refl c.in_ok-sweep.ensures.over)
    c.in_ok-sweep.ensures.ok
