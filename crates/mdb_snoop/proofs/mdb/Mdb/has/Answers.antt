use Rattle.std.proofs.Common.{◌∙◌, ap, is_some}
use Rattle.std.specs.FinMap.Entries.{is_some-find}
use Rattle.br_model.specs.Table.Groups.{membership_cmp}
use Rattle.br_model.specs.Data.Maps.{get, has}
use Rattle.mdb_snoop.specs.Database.{memberships}
use Rattle.mdb_snoop.specs.Places.{flat}
use Rattle.mdb_snoop.proofs.mdb.Mdb.has.Goals as goal

pub returns : goal.returns
returns c =
    c.has_member.ensures
    ∙ ap (λ l. is_some (get membership_cmp (flat l) (c.args.vid, c.args.group, c.args.port))) c.deref.ensures.value
    ∙ is_some-find membership_cmp (c.args.vid, c.args.group, c.args.port) (flat c.self.inside.sections.items)
    ∙ ap (λ d. has membership_cmp (memberships d) (c.args.vid, c.args.group, c.args.port)) c.self.view_is
