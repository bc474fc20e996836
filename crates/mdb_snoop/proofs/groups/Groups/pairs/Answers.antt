use Rattle.std.proofs.Common.{◌∙◌, ap, length}
use Rattle.br_model.specs.Table.GroupPairs.{group_pairs}
use Rattle.mdb_snoop.proofs.Questions.{pairs-count}
use Rattle.mdb_snoop.proofs.groups.Groups.pairs.Goals as goal

pub returns : goal.returns
returns c =
    c.count.ensures
    ∙ ap length c.deref.ensures.value
    ∙ pairs-count c.self.inside.sections.items c.self.invariant.0
    ∙ ap (λ l. length (group_pairs l)) c.self.view_is
