use Rattle.std.proofs.Common.{◌∙◌, ap, slice_get}
use Rattle.br_model.specs.Table.GroupPairs.{group_pairs}
use Rattle.mdb_snoop.specs.Database.{ports_in}
use Rattle.port_sets.specs.Numbers.{has_number}
use Rattle.mdb_snoop.proofs.Questions.{member-there}
use Rattle.mdb_snoop.proofs.groups.Groups.member_at.Goals as goal

pub returns : goal.returns
returns c = λ v g is.
    member-there c.self.inside.sections.items c.args.place c.args.port v g _ c.self.invariant.0 (ap (λ l. slice_get (group_pairs l) c.args.place) c.self.view_is ∙ is)
    (λ s there. c.member_at.ensures s (ap (λ ss. slice_get ss c.args.place) c.deref.ensures.value ∙ there))
    ∙ ap (λ l. has_number (ports_in l v g) c.args.port) c.self.view_is
