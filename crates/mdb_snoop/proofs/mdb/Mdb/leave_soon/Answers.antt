use Rattle.br_model.specs.Table.Groups.{membership_cmp}
use Rattle.mdb_snoop.specs.Database.{ending_soon, memberships}
use Rattle.mdb_snoop.proofs.Soonest.{sooner-bound}
use Rattle.mdb_snoop.proofs.Views.{with_groups}
use Rattle.std.proofs.Common.{sym, ap, ◌∙◌, arith}
use Rattle.br_model.specs.Data.Maps.{is_ascending}
use Rattle.mdb_snoop.proofs.Sound.{groups-ascend, soon-keys}
use Rattle.mdb_snoop.proofs.mdb.Mdb.leave_soon.Goals as goal

pub invariant_of-self : goal.invariant_of-self
invariant_of-self c =
    rw c.min-self-inside.ensures (
      c.leave_soon.ensures.sound,
      omega (arith, c.leave_soon.ensures.capacity, c.self.invariant.1),
      sooner-bound _ _ c.self.invariant.2 (c.args.v, c.args.g, c.args.p) _ c.args.end c.leave_soon.ensures.members,
    )

pub returns-clause-groups : goal.returns-clause-groups
returns-clause-groups c = with_groups _ _ (λ l. ending_soon membership_cmp l (c.args.v, c.args.g, c.args.p) c.args.end) _ c.leave_soon.ensures.members c.self.view_is

pub returns-clause-memberships : goal.returns-clause-memberships
returns-clause-memberships c =
    ap memberships (returns-clause-groups c)
    ∙ soon-keys c.args.self.now.groups (c.args.v, c.args.g, c.args.p) c.args.end
    (ap (λ d. is_ascending membership_cmp d.groups) (sym c.self.view_is) ∙ groups-ascend c.self.inside.sections.items c.self.invariant.0)
