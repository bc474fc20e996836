use Rattle.std.proofs.Common.{ap, ◌∙◌, is_some}
use Rattle.std.specs.Prelude.{slice_get}
use Rattle.std.specs.Ordering.{nat_cmp}
use Rattle.br_model.specs.Data.Maps.{get}
use Rattle.mdb_snoop.proofs.Mapped.{other-left}
use Rattle.mdb_snoop.proofs.members.Members.has_other.Goals as goal

pub returns : goal.returns
returns g c =
    c.is_some.ensures
    ∙ ap is_some c.first.ensures.value
    ∙ ap (λ l. is_some (slice_get l 0)) (rw c.number.ensures.value at c.without.ensures)
    ∙ other-left (get nat_cmp (g.E.Ends.moments c.self.inside.ends)) c.self.inside.ports c.args.port c.args.self.now c.members_ascend.ensures.ordered c.self.view_is
