use Rattle.std.proofs.Common.{◌∙◌, true, false, sym, ap}
use Rattle.std.specs.Ordering.{nat_cmp}
use Rattle.br_model.specs.Data.Maps.{has}
use Rattle.br_model.specs.Table.Table.{ip_version}
use Rattle.br_model.specs.Control.Ends.{due, due_members}
use Rattle.mdb_snoop.specs.Places.{flat}
use Rattle.mdb_snoop.specs.Database.{versions}
use Rattle.mdb_snoop.proofs.Views.{due-four, due-six, due-versions}
use Rattle.mdb_snoop.proofs.mdb.Mdb.expire.Goals as goal

pub returns-clause-groups : goal.returns-clause-groups
returns-clause-groups c =
    c.of-groups.ensures
    ∙ c.in_ok-expired.ensures
    ∙ ap (λ l. due_members c.args.now (flat l)) c.deref.ensures.value
    ∙ ap (λ d. due_members c.args.now d.groups) c.self.view_is

pub returns-clause-routers : goal.returns-clause-routers
returns-clause-routers c = c.due.ensures.value ∙ ap (λ d. due c.args.now d.routers) c.self.view_is

pub returns-clause-four : goal.returns-clause-four
returns-clause-four c =
    c.is_over.ensures
    ∙ due-four c.args.now c.self.inside.four c.self.inside.six
    ∙ ap (λ d. has nat_cmp (due c.args.now d.queriers) (ip_version false)) c.self.view_is

pub returns-clause-six : goal.returns-clause-six
returns-clause-six c =
    c.is_over-2.ensures
    ∙ due-six c.args.now c.self.inside.four c.self.inside.six
    ∙ ap (λ d. has nat_cmp (due c.args.now d.queriers) (ip_version true)) c.self.view_is

pub returns-clause-queriers : goal.returns-clause-queriers
returns-clause-queriers c =
    sym (ap (λ d. due c.args.now d.queriers) c.self.view_is)
    ∙ due-versions c.args.now c.self.inside.four c.self.inside.six
    ∙ sym (λ i. versions (c.is_over.ensures i) (c.is_over-2.ensures i))
