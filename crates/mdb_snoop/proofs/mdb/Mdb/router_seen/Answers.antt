use Rattle.std.proofs.Common.{◌∙◌, ap, is_some, not}
use Rattle.std.specs.Ordering.{nat_cmp}
use Rattle.std.specs.FinMap.Entries.{is_some-find}
use Rattle.br_model.specs.Data.Maps.{has, put}
use Rattle.br_model.specs.Control.Ends.{keys}
use Rattle.mdb_snoop.proofs.Soonest.{router-bound}
use Rattle.mdb_snoop.proofs.Views.{with_routers}
use Rattle.br_model.proofs.Data.KeySets.{keys-put}
use Rattle.mdb_snoop.proofs.mdb.Mdb.router_seen.Goals as goal

pub returns-clause-seen : goal.returns-clause-seen
returns-clause-seen c =
    ap not (
    c.is_some-there.ensures
    ∙ ap is_some c.get.ensures
    ∙ is_some-find nat_cmp c.args.p c.self.inside.routers
    ∙ ap (λ d. has nat_cmp (keys d.routers) c.args.p) c.self.view_is
    )

pub returns-clause-routers : goal.returns-clause-routers
returns-clause-routers c = with_routers _ _ (λ l. put nat_cmp l c.args.p c.args.end) _ c.set.ensures c.self.view_is

pub returns-clause-ports : goal.returns-clause-ports
returns-clause-ports c = ap (λ d. keys d.routers) (returns-clause-routers c) ∙ keys-put nat_cmp c.args.self.now.routers c.args.p c.args.end

pub invariant_of-self : goal.invariant_of-self
invariant_of-self c =
    rw c.min-self-inside.ensures (c.self.invariant.0, c.self.invariant.1, router-bound _ _ c.self.invariant.2 c.args.p _ c.args.end c.set.ensures)
