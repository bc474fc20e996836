use Rattle.std.proofs.Common.{subst, ap, ◌∙◌}
use Rattle.br_model.specs.Plane.World.{chip_at, table_of_chip}
use Rattle.br_model.specs.Table.Domains.{has_chip}
use Rattle.chip_tables.specs.Stands.{Stands}
use Rattle.plane_core.specs.Planes.{PlaneState}
use Rattle.plane_core.specs.Sides.{world_of}
use Rattle.plane_core.proofs.Calling.{chip_there}
use Rattle.plane_core.proofs.plane.Plane.tables.Goals as goal

pub tables-requires : goal.tables-requires
tables-requires c =
    chip_there (world_of c.self.inside.sides c.self.inside.frames c.self.inside.steps) c.args.dom c.self.invariant
    (ap (λ (p : PlaneState). has_chip p.world.setup.domains c.args.dom) c.self.view_is ∙ c.requires)

pub returns : goal.returns
returns c x is =
    subst (λ (p : PlaneState). Stands p.world.setup.domains c.args.dom c.tables.result.now (table_of_chip p.world x)) c.self.view_is
    (c.tables.ensures x (ap (λ (p : PlaneState). chip_at p.world c.args.dom) c.self.view_is ∙ is))
