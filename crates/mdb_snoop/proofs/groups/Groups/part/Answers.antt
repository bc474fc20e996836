use Rattle.std.proofs.Common.{◌∙◌, ap, arith}
use Rattle.std.specs.FinMap.Entries.{is_some-find}
use Rattle.br_model.specs.Control.Ends.{keys}
use Rattle.br_model.specs.Data.Maps.{has, parted}
use Rattle.br_model.specs.Table.Groups.{membership_cmp}
use Rattle.br_model.proofs.Data.KeySets.{keys-without}
use Rattle.mdb_snoop.specs.Places.{flat}
use Rattle.mdb_snoop.proofs.Counts.{counted-part, some-counted}
use Rattle.mdb_snoop.proofs.Sound.{groups-ascend}
use Rattle.mdb_snoop.proofs.groups.Groups.part.Goals as goal

pub remove-requires : goal.remove-requires
remove-requires c =
    some-counted c.self.inside.counts.counts (flat c.self.inside.sections.items) (flat c.self.inside.sections.items) (c.args.v, c.args.g, c.args.p) c.self.invariant.2
    (groups-ascend c.self.inside.sections.items c.self.invariant.0) _ c.part-was_there.ensures.there

pub invariant_of-self : goal.invariant_of-self
invariant_of-self c = (
  c.part-was_there.ensures.sound,
  omega (arith, c.part-was_there.ensures.capacity, c.self.invariant.1),
  counted-part c.self.inside.counts.counts (flat c.self.inside.sections.items) _ (c.args.v, c.args.g, c.args.p) c.self.invariant.2 (groups-ascend c.self.inside.sections.items c.self.invariant.0)
      _ _ c.part-was_there.ensures.members c.part-was_there.ensures.there c.remove.ensures.value c.remove.ensures.within,
)

pub returns-clause-there : goal.returns-clause-there
returns-clause-there c =
    c.part-was_there.ensures.there
    ∙ is_some-find membership_cmp (c.args.v, c.args.g, c.args.p) (flat c.self.inside.sections.items)
    ∙ ap (λ l. has membership_cmp l (c.args.v, c.args.g, c.args.p)) c.self.view_is

pub returns-clause-members : goal.returns-clause-members
returns-clause-members c =
    ap keys c.part-was_there.ensures.members
    ∙ keys-without membership_cmp (flat c.self.inside.sections.items) (c.args.v, c.args.g, c.args.p)
    ∙ ap (λ l. parted membership_cmp l (c.args.v, c.args.g, c.args.p)) c.self.view_is
