use Rattle.std.proofs.Common.{◌∙◌, sym, ap, slice_get}
use Rattle.br_model.specs.Table.GroupPairs.{group_pairs}
use Rattle.br_model.specs.Control.Ends.{keys}
use Rattle.mdb_snoop.proofs.Questions.{pairs-all}
use Rattle.mdb_snoop.proofs.groups.Groups.pair.Goals as goal

pub returns : goal.returns
returns c =
    c.key_at.ensures
    ∙ ap (λ ss. slice_get (keys ss) c.args.place) c.deref.ensures.value
    ∙ ap (λ ks. slice_get ks c.args.place) (sym (pairs-all c.self.inside.sections.items c.self.invariant.0.ascending c.self.invariant.0.fit))
    ∙ ap (λ l. slice_get (group_pairs l) c.args.place) c.self.view_is
