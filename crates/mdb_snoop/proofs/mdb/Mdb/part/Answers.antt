use Rattle.std.proofs.Common.{◌∙◌, ap, arith}
use Rattle.std.specs.FinMap.Entries.{is_some-find}
use Rattle.br_model.specs.Table.Groups.{membership_cmp}
use Rattle.br_model.specs.Data.Maps.{has, without}
use Rattle.mdb_snoop.specs.Database.{memberships}
use Rattle.mdb_snoop.specs.Places.{flat}
use Rattle.mdb_snoop.proofs.Soonest.{parted-bound}
use Rattle.mdb_snoop.proofs.Views.{with_groups}
use Rattle.br_model.proofs.Data.KeySets.{keys-without}
use Rattle.mdb_snoop.proofs.mdb.Mdb.part.Goals as goal

pub invariant_of-self : goal.invariant_of-self
invariant_of-self c = (
  c.part.ensures.sound,
  omega (arith, c.part.ensures.capacity, c.self.invariant.1),
  parted-bound _ _ c.self.invariant.2 (c.args.v, c.args.g, c.args.p) _ c.part.ensures.members,
)

pub returns-clause-there : goal.returns-clause-there
returns-clause-there c =
    c.part.ensures.there
    ∙ is_some-find membership_cmp (c.args.v, c.args.g, c.args.p) (flat c.self.inside.sections.items)
    ∙ ap (λ d. has membership_cmp (memberships d) (c.args.v, c.args.g, c.args.p)) c.self.view_is

pub returns-clause-groups : goal.returns-clause-groups
returns-clause-groups c = with_groups _ _ (λ l. without membership_cmp l (c.args.v, c.args.g, c.args.p)) _ c.part.ensures.members c.self.view_is

pub returns-clause-memberships : goal.returns-clause-memberships
returns-clause-memberships c =
    ap memberships (returns-clause-groups c) ∙ keys-without membership_cmp c.args.self.now.groups (c.args.v, c.args.g, c.args.p)
