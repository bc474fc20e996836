use Rattle.std.proofs.Common.{ap, ◌∙◌, arith}
use Rattle.std.specs.Ordering.{nat_cmp}
use Rattle.br_model.specs.Data.Maps.{put}
use Rattle.mdb_snoop.proofs.PortNumbers.{ArePorts-with}
use Rattle.mdb_snoop.proofs.Mapped.{mapped, write-put}
use Rattle.mdb_snoop.proofs.moments.Moments.set.Goals as goal

pub returns : goal.returns
returns c =
    ap (mapped _) (rw c.number.ensures.value at c.with-self-inside.ensures)
    ∙ write-put c.self.inside.moments _ c.self.inside.ports c.args.port c.args.moment c.members_ascend.ensures.ordered c.number.ensures.below (omega (arith, c.self.told)) c.write.ensures
    ∙ ap (λ m. put nat_cmp m c.args.port c.args.moment) c.self.view_is

pub invariant_of-self : goal.invariant_of-self
invariant_of-self c = ArePorts-with c.self.inside.ports _ c.args.port c.self.invariant c.number.ensures.last (rw c.number.ensures.value at c.with-self-inside.ensures)
