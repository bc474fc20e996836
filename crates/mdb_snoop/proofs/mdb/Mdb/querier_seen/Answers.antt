use Rattle.std.proofs.Common.{◌∙◌, sym, ap}
use Rattle.std.specs.Ordering.{nat_cmp}
use Rattle.br_model.specs.Data.Maps.{put}
use Rattle.br_model.specs.Table.Table.{ip_version}
use Rattle.br_model.specs.Control.Ends.{keys}
use Rattle.mdb_snoop.specs.Places.{queriers_of}
use Rattle.mdb_snoop.proofs.Views.{with_queriers, seen-four, seen-six}
use Rattle.br_model.proofs.Data.KeySets.{keys-put}
use Rattle.mdb_snoop.proofs.mdb.Mdb.querier_seen.Goals as goal

pub returns-then-six-clause-queriers : goal.returns-then-six-clause-queriers
returns-then-six-clause-queriers c =
    with_queriers _ _ (λ l. put nat_cmp l (ip_version c.args.six) c.args.end) _
    (seen-six c.self.inside.four c.self.inside.six c.args.end ∙ ap (λ b. put nat_cmp (queriers_of c.self.inside.four c.self.inside.six) (ip_version b) c.args.end) (sym c.if-six.true))
    c.self.view_is

pub returns-else-six-clause-queriers : goal.returns-else-six-clause-queriers
returns-else-six-clause-queriers c =
    with_queriers _ _ (λ l. put nat_cmp l (ip_version c.args.six) c.args.end) _
    (seen-four c.self.inside.four c.self.inside.six c.args.end ∙ ap (λ b. put nat_cmp (queriers_of c.self.inside.four c.self.inside.six) (ip_version b) c.args.end) (sym c.if-six.false))
    c.self.view_is

pub returns-then-six-clause-versions : goal.returns-then-six-clause-versions
returns-then-six-clause-versions c =
    ap (λ d. keys d.queriers) (returns-then-six-clause-queriers c) ∙ keys-put nat_cmp c.args.self.now.queriers (ip_version c.args.six) c.args.end

pub returns-else-six-clause-versions : goal.returns-else-six-clause-versions
returns-else-six-clause-versions c =
    ap (λ d. keys d.queriers) (returns-else-six-clause-queriers c) ∙ keys-put nat_cmp c.args.self.now.queriers (ip_version c.args.six) c.args.end
