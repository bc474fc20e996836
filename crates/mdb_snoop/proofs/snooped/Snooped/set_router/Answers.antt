use Rattle.std.proofs.Common.{List, ℕ, ◌||◌, ◌&&◌, not, ap, sym, ◌∙◌}
use Rattle.std.specs.Prelude.{◌==◌}
use Rattle.br_model.specs.Table.Domains.{port_places}
use Rattle.br_model.specs.Table.Table.{switched}
use Rattle.port_sets.specs.Numbers.{has_number, numbers_below}
use Rattle.port_sets.proofs.Ordered.{insert_key-set, without-set}
use Rattle.mdb_snoop.specs.Database.{Known}
use Rattle.mdb_snoop.specs.contracts.snooped.Snooped.{the_view}
use Rattle.mdb_snoop.proofs.snooped.Snooped.set_router.Goals as goal

pub returns-then-on : goal.returns-then-on
returns-then-on c =
    let old = c.self.inside.routers in
    ap (λ r. record (the_view c.self.inside) { routers = r })
    (c.with-self-inside.ensures
    ∙ ap (λ n. numbers_below port_places (λ m. (m == n) || has_number old m)) c.number-number.ensures.value
    ∙ sym (insert_key-set port_places c.args.port old c.members_ascend.ensures.ordered c.number-number.ensures.below)
    ∙ ap (λ b. switched b old c.args.port) (sym c.if-on.true))
    ∙ ap (λ (s : Known). record s { routers = switched c.args.on s.routers c.args.port }) c.self.view_is

pub returns-else-on : goal.returns-else-on
returns-else-on c =
    let old = c.self.inside.routers in
    ap (λ r. record (the_view c.self.inside) { routers = r })
    (c.without-self-inside.ensures
    ∙ ap (λ n. numbers_below port_places (λ m. has_number old m && not (m == n))) c.number-number.ensures.value
    ∙ sym (without-set port_places c.args.port old c.members_ascend.ensures.ordered)
    ∙ ap (λ b. switched b old c.args.port) (sym c.if-on.false))
    ∙ ap (λ (s : Known). record s { routers = switched c.args.on s.routers c.args.port }) c.self.view_is
