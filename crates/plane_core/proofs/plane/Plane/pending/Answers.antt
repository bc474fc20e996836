use Rattle.std.proofs.Common.{option_map, sym, ap, ◌∙◌}
use Rattle.br_model.specs.Plane.Runs.{pending_of}
use Rattle.br_model.specs.Plane.World.{chip_at}
use Rattle.br_model.specs.Table.Domains.{has_chip}
use Rattle.plane_core.specs.Planes.{PlaneState}
use Rattle.plane_core.specs.Sides.{world_of}
use Rattle.plane_core.proofs.Calling.{chip_there}
use Rattle.plane_core.proofs.plane.Plane.pending.Goals as goal

pub pending-requires : goal.pending-requires
pending-requires c =
    chip_there (world_of c.self.inside.sides c.self.inside.frames c.self.inside.steps) c.args.d c.self.invariant (ap (λ (p : PlaneState). has_chip p.world.setup.domains c.args.d) c.self.view_is
    ∙ c.requires)

pub returns : goal.returns
returns c = ap (λ (p : PlaneState). option_map (pending_of p.world) (chip_at p.world c.args.d)) (sym c.self.view_is) ∙ c.pending.ensures
