use Rattle.std.proofs.Common.{ap, sym, ◌∙◌}
use Rattle.std.specs.Ordering.{nat_cmp}
use Rattle.br_model.specs.Data.Maps.{has}
use Rattle.br_model.specs.Table.Table.{ip_version}
use Rattle.mdb_snoop.specs.Database.{Known}
use Rattle.mdb_snoop.proofs.Queriers.{has-six, has-four}
use Rattle.mdb_snoop.proofs.snooped.Snooped.querier.Goals as goal

pub returns-then-six-clause-value : goal.returns-then-six-clause-value
returns-then-six-clause-value c =
    has-six c.self.inside.four c.self.inside.six
    ∙ ap (λ (k : Known). has nat_cmp k.queriers 6) c.self.view_is
    ∙ ap (λ b. has nat_cmp c.args.self.now.queriers (ip_version b)) (sym c.if-six.true)

pub returns-else-six-clause-value : goal.returns-else-six-clause-value
returns-else-six-clause-value c =
    has-four c.self.inside.four c.self.inside.six
    ∙ ap (λ (k : Known). has nat_cmp k.queriers 4) c.self.view_is
    ∙ ap (λ b. has nat_cmp c.args.self.now.queriers (ip_version b)) (sym c.if-six.false)

pub returns-then-six-clause-table : goal.returns-then-six-clause-table
returns-then-six-clause-table c = λ t queriers. returns-then-six-clause-value c ∙ ap (λ l. has nat_cmp l (ip_version c.args.six)) (sym queriers)

pub returns-else-six-clause-table : goal.returns-else-six-clause-table
returns-else-six-clause-table c = λ t queriers. returns-else-six-clause-value c ∙ ap (λ l. has nat_cmp l (ip_version c.args.six)) (sym queriers)
