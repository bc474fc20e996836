use Rattle.std.proofs.Common.{◌∙◌, true, false, sym, ap}
use Rattle.std.specs.Ordering.{nat_cmp}
use Rattle.br_model.specs.Data.Maps.{has}
use Rattle.br_model.specs.Table.Table.{ip_version}
use Rattle.br_model.specs.Control.Ends.{keys}
use Rattle.mdb_snoop.proofs.Views.{known-four, known-six}
use Rattle.mdb_snoop.proofs.mdb.Mdb.querier.Goals as goal

pub returns-then-six-clause-value : goal.returns-then-six-clause-value
returns-then-six-clause-value c =
    c.is_some.ensures
    ∙ known-six c.self.inside.four c.self.inside.six
    ∙ ap (λ d. has nat_cmp (keys d.queriers) (ip_version true)) c.self.view_is
    ∙ ap (λ b. has nat_cmp (keys c.args.self.now.queriers) (ip_version b)) (sym c.if-six.true)

pub returns-else-six-clause-value : goal.returns-else-six-clause-value
returns-else-six-clause-value c =
    c.is_some-else-six.ensures
    ∙ known-four c.self.inside.four c.self.inside.six
    ∙ ap (λ d. has nat_cmp (keys d.queriers) (ip_version false)) c.self.view_is
    ∙ ap (λ b. has nat_cmp (keys c.args.self.now.queriers) (ip_version b)) (sym c.if-six.false)

pub returns-then-six-clause-table : goal.returns-then-six-clause-table
returns-then-six-clause-table c =
    λ t queriers. returns-then-six-clause-value c ∙ ap (λ l. has nat_cmp l (ip_version c.args.six)) (sym queriers)

pub returns-else-six-clause-table : goal.returns-else-six-clause-table
returns-else-six-clause-table c =
    λ t queriers. returns-else-six-clause-value c ∙ ap (λ l. has nat_cmp l (ip_version c.args.six)) (sym queriers)
