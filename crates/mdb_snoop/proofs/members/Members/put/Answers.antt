use Rattle.std.proofs.Common.{ap, ◌∙◌}
use Rattle.std.specs.Ordering.{nat_cmp}
use Rattle.br_model.specs.Data.Maps.{put}
use Rattle.mdb_snoop.proofs.PortNumbers.{ArePorts-with}
use Rattle.mdb_snoop.proofs.Mapped.{mapped, put-end}
use Rattle.mdb_snoop.proofs.members.Members.put.Goals as goal

pub returns : goal.returns
returns g c =
    ap (mapped _) (rw c.number.ensures.value at c.with-self-inside.ensures)
    ∙ put-end (g.E.Ends.moments c.self.inside.ends) _ c.self.inside.ports c.args.port c.args.end c.members_ascend.ensures.ordered c.number.ensures.below c.set_end.ensures
    ∙ ap (λ m. put nat_cmp m c.args.port c.args.end) c.self.view_is

pub invariant_of-self : goal.invariant_of-self
invariant_of-self g c = ArePorts-with c.self.inside.ports _ c.args.port c.self.invariant c.number.ensures.last (rw c.number.ensures.value at c.with-self-inside.ensures)
