use Rattle.std.proofs.Common.{cond, refl, ap, sym, ◌∙◌}
use Rattle.br_model.specs.Table.Table.{Table}
use Rattle.br_model.specs.Forward.Targets.{multicast_flood, to_routers}
use Rattle.forward_rules.specs.PortSets.{set_of}
use Rattle.forward_rules.specs.contracts.port_tables.PortTables.{the_view}
use Rattle.forward_rules.proofs.SetLaws.{set_of-set}
use Rattle.forward_rules.proofs.port_tables.PortTables.to_routers.Goals as goal

pub returns-then-querier : goal.returns-then-querier
returns-then-querier c =
    let t : Table = the_view c.self.inside in
    set_of-set c.routers-routers.result c.members_ascend.ensures.ordered
    ∙ ap set_of c.routers-routers.ensures
    ∙ sym (ap (λ b. set_of (cond b t.routers (multicast_flood t))) (sym (c.querier.ensures.table t refl) ∙ c.if-querier.true))
    ∙ ap (λ (x : Table). set_of (to_routers x c.args.six)) c.self.view_is
