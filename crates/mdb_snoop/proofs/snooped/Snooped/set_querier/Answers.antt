use Rattle.std.proofs.Common.{List, ℕ, ap, sym, ◌∙◌}
use Rattle.br_model.specs.Table.Table.{ip_version, switched}
use Rattle.mdb_snoop.specs.Database.{Known, versions}
use Rattle.mdb_snoop.specs.contracts.snooped.Snooped.{the_view}
use Rattle.mdb_snoop.proofs.Queriers.{sets-six, sets-four}
use Rattle.mdb_snoop.proofs.snooped.Snooped.set_querier.Goals as goal

pub returns-then-six : goal.returns-then-six
returns-then-six c =
    let s = c.self.inside in
    ap (λ (q : List ℕ). record (the_view s) { queriers = q })
    (sets-six c.args.on s.four s.six ∙ ap (λ b. switched c.args.on (versions s.four s.six) (ip_version b)) (sym c.if-six.true))
    ∙ ap (λ (k : Known). record k { queriers = switched c.args.on k.queriers (ip_version c.args.six) }) c.self.view_is

pub returns-else-six : goal.returns-else-six
returns-else-six c =
    let s = c.self.inside in
    ap (λ (q : List ℕ). record (the_view s) { queriers = q })
    (sets-four c.args.on s.four s.six ∙ ap (λ b. switched c.args.on (versions s.four s.six) (ip_version b)) (sym c.if-six.false))
    ∙ ap (λ (k : Known). record k { queriers = switched c.args.on k.queriers (ip_version c.args.six) }) c.self.view_is
