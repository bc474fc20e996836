use Rattle.std.proofs.Common.{◌∙◌, ap}
use Rattle.br_model.specs.Table.GroupPairs.{has_room}
use Rattle.br_model.specs.Table.Groups.{membership_cmp}
use Rattle.mdb_snoop.specs.Database.{end_joined, joined_until, memberships}
use Rattle.mdb_snoop.proofs.Questions.{room-for}
use Rattle.mdb_snoop.proofs.Soonest.{joined-bound}
use Rattle.mdb_snoop.proofs.Views.{with_groups}
use Rattle.mdb_snoop.proofs.Sound.{made}
use Rattle.br_model.proofs.Data.KeySets.{keys-put}
use Rattle.br_model.specs.Data.Maps.{get}
use Rattle.mdb_snoop.proofs.mdb.Mdb.join.Goals as goal

pub invariant_of-self : goal.invariant_of-self
invariant_of-self c =
    rw (c.min-self-inside.ensures, c.moment_of.ensures) (
      c.join.ensures.sound,
      c.join.ensures.capacity,
      joined-bound _ _ c.self.invariant.2 (c.args.v, c.args.g, c.args.p) _ c.args.end c.join.ensures.members,
    )

pub returns-clause-groups : goal.returns-clause-groups
returns-clause-groups c = with_groups _ _ (λ l. joined_until membership_cmp l (c.args.v, c.args.g, c.args.p) c.args.end) _ c.join.ensures.members c.self.view_is

pub returns-clause-made : goal.returns-clause-made
returns-clause-made c = λ moment is new. returns-clause-groups c ∙ made c.args.self.now (c.args.v, c.args.g, c.args.p) c.args.end moment is new

pub join-requires-clause-room : goal.join-requires-clause-room
join-requires-clause-room c =
    room-for c.self.inside.sections.items c.args.v c.args.g c.self.invariant.0 (ap (λ d. has_room (memberships d) c.args.v c.args.g) c.self.view_is ∙ c.requires)

pub returns-clause-memberships : goal.returns-clause-memberships
returns-clause-memberships c =
    ap memberships (returns-clause-groups c)
    ∙ keys-put membership_cmp c.args.self.now.groups (c.args.v, c.args.g, c.args.p) (end_joined (get membership_cmp c.args.self.now.groups (c.args.v, c.args.g, c.args.p)) c.args.end)
