use Rattle.std.proofs.Common.{◌≡◌, ℕ, List, ◌<◌, not, ◌&&◌, refl, ap, sym, ◌∙◌}
use Rattle.std.proofs.Math.Bool.{and-true}
use Rattle.br_model.specs.Forward.Eligible.{may}
use Rattle.br_model.specs.Table.Table.{Table}
use Rattle.br_model.specs.Table.Domains.{port_places}
use Rattle.port_sets.specs.Numbers.{has_number}
use Rattle.port_sets.proofs.Numbers.{has-below}
use Rattle.vlan_groups.specs.Rows.{ports_where}
use Rattle.forward_rules.specs.contracts.port_tables.PortTables.{the_view}
use Rattle.forward_rules.proofs.PortParts.{may-take, may-within}
use Rattle.forward_rules.proofs.SetLaws.{set-is}
use Rattle.forward_rules.proofs.port_tables.PortTables.eligible.Goals as goal
use Rattle.forward_rules.proofs.port_tables.PortTables.eligible.Goals.{then-has, else-has}

pub returns-clause-value : goal.returns-clause-value
returns-clause-value c =
    let allow : (q : ℕ) → q < port_places
    → has_number c.if-has.allowed q ≡ (has_number c.without-others.result q && not (has_number c.isolated-isolated.result c.number-2.result && has_number c.isolated-isolated.result q)) =
    λ q low. elim c.if-has.branch [
      | then-has w ↦
          ap (λ (ns : List ℕ). has_number ns q) (w.allowed-is ∙ w.minus-allowed.ensures)
          ∙ has-below _ port_places q low
          ∙ ap (λ b. has_number c.without-others.result q && not (b && has_number c.isolated-isolated.result q)) (sym w.if-has.true ∙ c.has.ensures.value)
      | else-has w ↦
          ap (λ (ns : List ℕ). has_number ns q) w.allowed-is
          ∙ sym (and-true (has_number c.without-others.result q))
          ∙ ap (λ b. has_number c.without-others.result q && not (b && has_number c.isolated-isolated.result q)) (sym w.if-has.false ∙ c.has.ensures.value)
    ] in
    set-is (λ q. may (the_view c.self.inside) c.args.port q c.args.vid) c.placed.result _ c.placed.ensures
    (may-take
    (the_view c.self.inside) c.args.port c.args.vid c.number.result c.number-2.result c.number-3.result c.ports_of-members.result c.self.inside.up c.forwarding.result c.and-forwarding.result
    c.and.result c.without-others.result c.isolated-isolated.result c.if-has.allowed c.placed.result c.has-2.result c.number.ensures.below c.number.ensures.value c.number-2.ensures.value
    c.number-3.ensures.value c.ports_of-members.ensures refl c.forwarding.ensures.value c.and-forwarding.ensures c.and.ensures c.without-others.ensures c.isolated-isolated.ensures allow
    c.has-2.ensures.value c.placed.ensures)
    ∙ ap (λ (t : Table). ports_where (λ q. may t c.args.port q c.args.vid)) c.self.view_is

pub returns-clause-ports : goal.returns-clause-ports
returns-clause-ports c =
    may-within (the_view c.self.inside) c.args.port c.args.vid c.forwarding.result c.placed.result c.forwarding.ensures.value c.forwarding.ensures.ports
    (returns-clause-value c ∙ ap (λ (t : Table). ports_where (λ q. may t c.args.port q c.args.vid)) (sym c.self.view_is))
