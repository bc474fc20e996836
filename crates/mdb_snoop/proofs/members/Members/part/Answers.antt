use Rattle.std.proofs.Common.{ap, ◌∙◌, not}
use Rattle.std.specs.Ordering.{nat_cmp}
use Rattle.br_model.specs.Data.Maps.{without}
use Rattle.std.specs.Prelude.{◌==◌}
use Rattle.mdb_snoop.proofs.PortNumbers.{ArePorts-kept}
use Rattle.mdb_snoop.proofs.Mapped.{mapped, part-none}
use Rattle.mdb_snoop.proofs.members.Members.part.Goals as goal

pub returns : goal.returns
returns g c =
    ap (mapped _) (rw c.number.ensures.value at c.without-self-inside.ensures)
    ∙ part-none (g.E.Ends.moments c.self.inside.ends) _ c.self.inside.ports c.args.port c.members_ascend.ensures.ordered c.set_end.ensures
    ∙ ap (λ m. without nat_cmp m c.args.port) c.self.view_is

pub invariant_of-self : goal.invariant_of-self
invariant_of-self g c = ArePorts-kept c.self.inside.ports _ (λ m. not (m == c.args.port)) c.self.invariant (rw c.number.ensures.value at c.without-self-inside.ensures)
