use Rattle.std.proofs.Common.{◌∙◌, ap}
use Rattle.br_model.specs.Control.Ends.{keys}
use Rattle.mdb_snoop.specs.Database.{ports_in}
use Rattle.mdb_snoop.specs.Places.{flat}
use Rattle.mdb_snoop.proofs.groups.Groups.members.Goals as goal

pub returns : goal.returns
returns c =
    c.ports.ensures
    ∙ ap (λ ss. ports_in (keys (flat ss)) c.args.v c.args.g) c.deref.ensures.value
    ∙ ap (λ l. ports_in l c.args.v c.args.g) c.self.view_is
