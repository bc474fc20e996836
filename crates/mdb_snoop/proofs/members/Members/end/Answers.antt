use Rattle.std.proofs.Common.{sym, ap, ◌∙◌}
use Rattle.std.specs.Ordering.{nat_cmp}
use Rattle.br_model.specs.Data.Maps.{get}
use Rattle.br_model.specs.Control.Ends.{end_of}
use Rattle.mdb_snoop.proofs.Mapped.{get-there, get-not}
use Rattle.mdb_snoop.proofs.members.Members.end.Goals as goal

pub returns-then-has : goal.returns-then-has
returns-then-has g c =
    c.end.ensures
    ∙ sym (ap end_of (get-there (get nat_cmp (g.E.Ends.moments c.self.inside.ends)) c.self.inside.ports c.args.port c.args.self.now c.self.view_is
    (rw c.number.ensures.value at (sym c.has.ensures.value ∙ c.if-has.true))))

pub returns-else-has : goal.returns-else-has
returns-else-has g c =
    sym (ap end_of (get-not (get nat_cmp (g.E.Ends.moments c.self.inside.ends)) c.self.inside.ports c.args.port c.args.self.now c.self.view_is
    (rw c.number.ensures.value at (sym c.has.ensures.value ∙ c.if-has.false))))
