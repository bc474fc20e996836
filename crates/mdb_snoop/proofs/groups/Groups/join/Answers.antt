use Rattle.std.proofs.Common.{◌∙◌, ap, is_some, not, None}
use Rattle.br_model.specs.Control.Ends.{keys}
use Rattle.br_model.specs.Data.Maps.{get, joined}
use Rattle.br_model.specs.Table.GroupPairs.{has_room}
use Rattle.br_model.specs.Table.Groups.{membership_cmp}
use Rattle.br_model.proofs.Data.KeySets.{keys-put}
use Rattle.mdb_snoop.specs.Database.{end_joined}
use Rattle.mdb_snoop.specs.Places.{flat}
use Rattle.mdb_snoop.proofs.Counts.{counted-join, few-counted}
use Rattle.mdb_snoop.proofs.Questions.{room-for}
use Rattle.mdb_snoop.proofs.Sound.{groups-ascend}
use Rattle.mdb_snoop.proofs.groups.Groups.join.Goals as goal

pub add-requires : goal.add-requires
add-requires c = few-counted c.self.inside.sections.items c.self.invariant.0 c.self.inside.counts.counts c.self.invariant.2 c.args.p

pub join-requires-clause-room : goal.join-requires-clause-room
join-requires-clause-room c =
    room-for c.self.inside.sections.items c.args.v c.args.g c.self.invariant.0 (ap (λ l. has_room l c.args.v c.args.g) c.self.view_is ∙ c.requires)

pub invariant_of-self : goal.invariant_of-self
invariant_of-self c = (
  c.join.ensures.sound,
  c.join.ensures.capacity,
  counted-join c.self.inside.counts.counts (flat c.self.inside.sections.items) _ (c.args.v, c.args.g, c.args.p) c.self.invariant.2 (groups-ascend c.self.inside.sections.items c.self.invariant.0)
      _ (end_joined (get membership_cmp (flat c.self.inside.sections.items) (c.args.v, c.args.g, c.args.p)) None) _ c.join.ensures.members
      (ap not (c.has_member-is_new.ensures ∙ ap (λ l. is_some (get membership_cmp (flat l) (c.args.v, c.args.g, c.args.p))) c.deref.ensures.value))
      c.add.ensures.value c.add.ensures.within,
)

pub returns : goal.returns
returns c =
    ap keys c.join.ensures.members
    ∙ keys-put membership_cmp (flat c.self.inside.sections.items) (c.args.v, c.args.g, c.args.p)
    (end_joined (get membership_cmp (flat c.self.inside.sections.items) (c.args.v, c.args.g, c.args.p)) None)
    ∙ ap (λ l. joined membership_cmp l (c.args.v, c.args.g, c.args.p)) c.self.view_is
