use Rattle.std.proofs.Common.{◌∙◌, sym, ap}
use Rattle.br_model.specs.Control.Ends.{keys}
use Rattle.mdb_snoop.specs.Database.{memberships, ports_in}
use Rattle.mdb_snoop.specs.Places.{flat}
use Rattle.mdb_snoop.proofs.mdb.Mdb.members.Goals as goal

pub returns-clause-value : goal.returns-clause-value
returns-clause-value c =
    c.ports.ensures
    ∙ ap (λ l. ports_in (keys (flat l)) c.args.v c.args.g) c.deref.ensures.value
    ∙ ap (λ d. ports_in (memberships d) c.args.v c.args.g) c.self.view_is

pub returns-clause-table : goal.returns-clause-table
returns-clause-table c = λ t groups. returns-clause-value c ∙ ap (λ l. ports_in l c.args.v c.args.g) (sym groups)
