use Rattle.std.proofs.Common.{◌∙◌, ap}
use Rattle.br_model.specs.Table.Groups.{membership_cmp}
use Rattle.br_model.specs.Data.Maps.{get}
use Rattle.mdb_snoop.specs.Database.{is_dynamic}
use Rattle.mdb_snoop.specs.Places.{flat}
use Rattle.mdb_snoop.proofs.mdb.Mdb.dynamic.Goals as goal

pub returns : goal.returns
returns c =
    c.is_dynamic.ensures
    ∙ ap (λ l. is_dynamic (get membership_cmp (flat l) (c.args.v, c.args.g, c.args.p))) c.deref.ensures.value
    ∙ ap (λ d. is_dynamic (get membership_cmp d.groups (c.args.v, c.args.g, c.args.p))) c.self.view_is
