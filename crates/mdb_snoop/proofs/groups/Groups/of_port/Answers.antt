use Rattle.std.proofs.Common.{◌∙◌, ap, is_some}
use Rattle.std.specs.Ordering.{nat_cmp}
use Rattle.std.specs.List.{filter}
use Rattle.br_model.specs.Data.Maps.{get}
use Rattle.br_model.specs.Control.Ends.{keys}
use Rattle.mdb_snoop.specs.Database.{pairs_of_port}
use Rattle.mdb_snoop.proofs.Questions.{pairs-flat}
use Rattle.mdb_snoop.proofs.groups.Groups.of_port.Goals as goal

pub returns : goal.returns
returns c =
    c.of.ensures
    ∙ c.in_ok-pairs.ensures
    ∙ ap (λ l. keys (filter (λ s. is_some (get nat_cmp s.1 c.args.p)) l)) c.deref.ensures.value
    ∙ pairs-flat c.args.p c.self.inside.sections.items c.self.invariant.0.fit
    ∙ ap (λ l. pairs_of_port l c.args.p) c.self.view_is
