use Rattle.std.proofs.Common.{◌≤◌, ◌∙◌, ap, length, subst}
use Rattle.std.specs.List.Sorted.{IsStrictlySortedBy}
use Rattle.br_model.proofs.Data.KeySets.{keys-ascend}
use Rattle.br_model.specs.Table.GroupPairs.{group_pairs, max_pairs}
use Rattle.br_model.specs.Table.Groups.{membership_cmp}
use Rattle.mdb_snoop.specs.Places.{flat}
use Rattle.mdb_snoop.proofs.Questions.{pairs-count}
use Rattle.mdb_snoop.proofs.Sound.{groups-ascend}
use Rattle.mdb_snoop.proofs.groups.Groups.members_ascend.Goals as goal

pub returns-clause-ascending : goal.returns-clause-ascending
returns-clause-ascending c =
    subst (IsStrictlySortedBy membership_cmp) c.self.view_is (keys-ascend membership_cmp (flat c.self.inside.sections.items) (groups-ascend c.self.inside.sections.items c.self.invariant.0))

pub returns-clause-few : goal.returns-clause-few
returns-clause-few c =
    subst (λ n. n ≤ max_pairs) (pairs-count c.self.inside.sections.items c.self.invariant.0 ∙ ap (λ l. length (group_pairs l)) c.self.view_is) c.self.invariant.0.few
