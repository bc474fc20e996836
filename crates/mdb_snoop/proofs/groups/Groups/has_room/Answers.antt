use Rattle.std.proofs.Common.{◌∙◌, ap}
use Rattle.br_model.specs.Table.GroupPairs.{has_room}
use Rattle.br_model.specs.Control.Ends.{keys}
use Rattle.mdb_snoop.specs.Places.{flat}
use Rattle.mdb_snoop.proofs.groups.Groups.has_room.Goals as goal

pub returns : goal.returns
returns c =
    c.has_room.ensures
    ∙ ap (λ ss. has_room (keys (flat ss)) c.args.vid c.args.group) c.deref.ensures.value
    ∙ ap (λ l. has_room l c.args.vid c.args.group) c.self.view_is
