use Rattle.std.proofs.Common.{ℕ, ◌&&◌, List, sym, ap, ◌∙◌}
use Rattle.br_model.specs.Table.Domains.{port_places}
use Rattle.port_sets.specs.Numbers.{has_number}
use Rattle.chip_tables.specs.Rows.{port_at, vlan_at}
use Rattle.chip_tables.specs.Stands.{ports_where}
use Rattle.port_sets.proofs.Building.{among_all, among_none, among_skip, among_with, yielded_members}
use Rattle.chip_pipeline.specs.PortRows.{row_lets}
use Rattle.chip_pipeline.proofs.Sets.{reached-are}
use Rattle.chip_pipeline.proofs.egress.reached.Goals as goal

pub loop-number-init : goal.loop-number-init
loop-number-init c = c.empty-ports.ensures ∙ among_none port_places (λ m. row_lets c.args.alone (port_at c.args.tables.now m))

pub loop-number-preserved-then-lets : goal.loop-number-preserved-then-lets
loop-number-preserved-then-lets c =
    among_with port_places c.in-Some.number
    (λ m. row_lets c.args.alone (port_at c.args.tables.now m)) c.loop-number.yielded c.loop-number.ports c.with-ports.result c.loop-number.invariant c.with-ports.ensures
    (sym c.lets.ensures ∙ c.if-lets.true)

pub loop-number-preserved : goal.loop-number-preserved
loop-number-preserved c =
    among_skip port_places c.in-Some.number (λ m. row_lets c.args.alone (port_at c.args.tables.now m)) c.loop-number.yielded c.loop-number.ports c.loop-number.invariant
    (sym c.lets.ensures ∙ c.if-lets.false)

pub returns : goal.returns
returns c =
    reached-are c.args.tables.now c.args.port c.number.result c.args.alone (vlan_at c.args.tables.now c.args.vid) c.args.fan.now c.and.result c.without-others.result c.loop-number.ports c.number.ensures.value
    (c.and.ensures ∙ ap (λ (ms : List ℕ). ports_where (λ m. has_number c.args.fan.now.ports m && has_number ms m)) c.members-members.ensures) c.without-others.ensures
    (among_all port_places
    (λ m. row_lets c.args.alone (port_at c.args.tables.now m)) c.without-others.result c.loop-number.yielded c.loop-number.ports c.iter-number-items.ensures.ordered c.loop-number.invariant
    (yielded_members c.without-others.result _ _ _ c.loop-number.yielded _ (c.into_iter-number-iterator.ensures.into_iter_gives
    ∙ c.iter-number-items.ensures.members) c.loop-number.yielded_by c.in-None.is c.next.ensures.steps))
