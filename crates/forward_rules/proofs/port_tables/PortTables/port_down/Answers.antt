use Rattle.std.proofs.Common.{◌&&◌, not, ap, sym, ◌∙◌}
use Rattle.std.specs.Prelude.{◌==◌}
use Rattle.br_model.specs.Table.Table.{Table, apply}
use Rattle.br_model.specs.declared.change.Change.TheVariants.{PortDown}
use Rattle.br_model.specs.Table.Domains.{port_places}
use Rattle.port_sets.specs.Numbers.{has_number, numbers_below}
use Rattle.port_sets.proofs.Ordered.{without-set}
use Rattle.forward_rules.specs.contracts.port_tables.PortTables.{the_view}
use Rattle.forward_rules.proofs.PortParts.{goes_down}
use Rattle.forward_rules.proofs.port_tables.PortTables.port_down.Goals as goal

pub returns : goal.returns
returns c =
    goes_down (the_view c.self.inside) c.args.port c.without-self-inside.result c.clear.new.self c.clear-2.new.self
    (c.without-self-inside.ensures
    ∙ ap (λ n. numbers_below port_places (λ m. has_number c.self.inside.up m && not (m == n))) c.number.ensures.value
    ∙ sym (without-set port_places c.args.port c.self.inside.up c.members_ascend.ensures.ordered))
    c.clear.ensures c.clear-2.ensures
    ∙ ap (λ (t : Table). apply t (PortDown c.args.port)) c.self.view_is
