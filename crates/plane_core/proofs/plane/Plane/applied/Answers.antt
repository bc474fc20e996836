use Rattle.std.proofs.Common.{ap, ◌∙◌}
use Rattle.br_model.specs.Table.Domains.{has_chip}
use Rattle.plane_core.specs.Planes.{PlaneState}
use Rattle.plane_core.specs.Sides.{world_of}
use Rattle.plane_core.proofs.Calling.{chip_there}
use Rattle.plane_core.proofs.plane.Plane.applied.Goals as goal

pub applied-requires : goal.applied-requires
applied-requires c =
    chip_there (world_of c.self.inside.sides c.self.inside.frames c.self.inside.steps) c.args.d c.self.invariant (ap (λ (p : PlaneState). has_chip p.world.setup.domains c.args.d) c.self.view_is
    ∙ c.requires)
