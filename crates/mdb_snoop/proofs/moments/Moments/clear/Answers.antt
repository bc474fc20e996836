use Rattle.std.proofs.Common.{refl, ap, ◌∙◌, not}
use Rattle.std.specs.Prelude.{◌==◌, slice_index}
use Rattle.std.specs.Ordering.{nat_cmp}
use Rattle.br_model.specs.Data.Maps.{without}
use Rattle.mdb_snoop.proofs.PortNumbers.{ArePorts-kept}
use Rattle.mdb_snoop.proofs.Mapped.{mapped, mapped-without}
use Rattle.mdb_snoop.proofs.moments.Moments.clear.Goals as goal

pub returns : goal.returns
returns c =
    ap (mapped (slice_index c.self.inside.moments)) (rw c.number.ensures.value at c.without-self-inside.ensures)
    ∙ mapped-without (slice_index c.self.inside.moments) (slice_index c.self.inside.moments) c.self.inside.ports c.args.port c.members_ascend.ensures.ordered (λ q e. refl)
    ∙ ap (λ m. without nat_cmp m c.args.port) c.self.view_is

pub invariant_of-self : goal.invariant_of-self
invariant_of-self c = ArePorts-kept c.self.inside.ports _ (λ m. not (m == c.args.port)) c.self.invariant (rw c.number.ensures.value at c.without-self-inside.ensures)
