use Rattle.std.proofs.Common.{◌∙◌, ap, is_some}
use Rattle.std.specs.Ordering.{nat_cmp}
use Rattle.std.specs.FinMap.Entries.{is_some-find}
use Rattle.br_model.specs.Data.Maps.{has, without}
use Rattle.br_model.specs.Control.Ends.{keys}
use Rattle.mdb_snoop.proofs.Soonest.{router_gone-bound}
use Rattle.mdb_snoop.proofs.Views.{with_routers}
use Rattle.br_model.proofs.Data.KeySets.{keys-without}
use Rattle.mdb_snoop.proofs.mdb.Mdb.router_gone.Goals as goal

pub invariant_of-self : goal.invariant_of-self
invariant_of-self c = (c.self.invariant.0, c.self.invariant.1, router_gone-bound _ _ c.self.invariant.2 c.args.p _ c.clear.ensures)

pub returns-clause-there : goal.returns-clause-there
returns-clause-there c =
    c.is_some-there.ensures
    ∙ ap is_some c.get.ensures
    ∙ is_some-find nat_cmp c.args.p c.self.inside.routers
    ∙ ap (λ d. has nat_cmp (keys d.routers) c.args.p) c.self.view_is

pub returns-clause-routers : goal.returns-clause-routers
returns-clause-routers c = with_routers _ _ (λ l. without nat_cmp l c.args.p) _ c.clear.ensures c.self.view_is

pub returns-clause-ports : goal.returns-clause-ports
returns-clause-ports c = ap (λ d. keys d.routers) (returns-clause-routers c) ∙ keys-without nat_cmp c.args.self.now.routers c.args.p
