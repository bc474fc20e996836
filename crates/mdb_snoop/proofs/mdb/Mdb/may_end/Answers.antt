use Rattle.std.proofs.Common.{◌∙◌, sym, ap}
use Rattle.br_model.specs.Control.Ends.{due, due_members}
use Rattle.mdb_snoop.proofs.Soonest.{members-wait, routers-wait, queriers-wait}
use Rattle.mdb_snoop.proofs.mdb.Mdb.may_end.Goals as goal

pub returns-clause-groups : goal.returns-clause-groups
returns-clause-groups c = λ early. ap (λ d. due_members c.args.now d.groups) (sym c.self.view_is) ∙ members-wait _ c.self.inside.soonest c.args.now c.self.invariant.2 early

pub returns-clause-routers : goal.returns-clause-routers
returns-clause-routers c = λ early. ap (λ d. due c.args.now d.routers) (sym c.self.view_is) ∙ routers-wait _ c.self.inside.soonest c.args.now c.self.invariant.2 early

pub returns-clause-queriers : goal.returns-clause-queriers
returns-clause-queriers c = λ early. ap (λ d. due c.args.now d.queriers) (sym c.self.view_is) ∙ queriers-wait _ c.self.inside.soonest c.args.now c.self.invariant.2 early
