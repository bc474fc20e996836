use Rattle.std.proofs.Common.{◌||◌, ap, sym, ◌∙◌}
use Rattle.std.specs.Prelude.{◌==◌}
use Rattle.br_model.specs.Table.Table.{Table, apply}
use Rattle.br_model.specs.declared.change.Change.TheVariants.{PortUp}
use Rattle.br_model.specs.Table.Domains.{port_places}
use Rattle.port_sets.specs.Numbers.{has_number, numbers_below}
use Rattle.port_sets.proofs.Ordered.{insert_key-set}
use Rattle.forward_rules.specs.contracts.port_tables.PortTables.{the_view}
use Rattle.forward_rules.proofs.PortParts.{comes_up}
use Rattle.forward_rules.proofs.port_tables.PortTables.port_up.Goals as goal

pub returns : goal.returns
returns c =
    comes_up (the_view c.self.inside) c.args.port c.with-self-inside.result c.set.new.self c.set-2.new.self
    (c.with-self-inside.ensures
    ∙ ap (λ n. numbers_below port_places (λ m. (m == n) || has_number c.self.inside.up m)) c.number.ensures.value
    ∙ sym (insert_key-set port_places c.args.port c.self.inside.up c.members_ascend.ensures.ordered c.number.ensures.below))
    c.set.ensures c.set-2.ensures
    ∙ ap (λ (t : Table). apply t (PortUp c.args.port)) c.self.view_is
