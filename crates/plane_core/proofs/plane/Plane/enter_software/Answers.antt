use Rattle.std.proofs.Common.{◌≡◌, ◌+◌, None, sym, ap, subst, ◌∙◌}
use Rattle.br_model.specs.Plane.Entering.{chip_of}
use Rattle.br_model.specs.Table.Domains.{domain_of}
use Rattle.br_model.specs.declared.steps.Step.TheVariants.{Rx}
use Rattle.plane_parts.specs.Arrivals.{settled}
use Rattle.plane_core.specs.Planes.{PlaneState}
use Rattle.plane_core.proofs.Entering.{enters_software}
use Rattle.plane_core.proofs.Stepping.{stepped}
use Rattle.plane_core.proofs.plane.Plane.enter_software.Goals as goal

pub invariant_of-self : goal.invariant_of-self
invariant_of-self c =
    rw (c.settle.ensures ∙ ap (settled c.self.inside.frames) c.arrive-arrival.ensures.value, c.requires.step ∙ sym (ap (λ (p : PlaneState). p.world.steps + 1) c.self.view_is))
    (stepped _ _ (Rx c.args.p c.args.b) _ (enters_software c.self.inside.sides c.self.inside.frames c.self.inside.steps c.args.p c.args.b c.args.head.now c.requires.frame
    (subst (λ (p : PlaneState). chip_of p.world (domain_of p.world.setup.domains c.args.p) ≡ None) (sym c.self.view_is) c.requires.off_chip)) c.self.invariant)
