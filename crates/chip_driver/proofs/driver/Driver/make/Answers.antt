use Rattle.std.proofs.Common.{◌≡◌, List, ℕ, [], replicate, rules, ap, subst, ◌∙◌}
use Rattle.br_model.specs.Table.Domains.{host, port_places}
use Rattle.br_model.specs.Table.Groups.{Membership}
use Rattle.port_sets.specs.Numbers.{has_number}
use Rattle.chip_tables.specs.Writing.{IsBlank}
use Rattle.chip_driver.specs.declared.shadow.Shadow.{Shadow}
use Rattle.vlan_groups.specs.Joined.{block_count}
use Rattle.chip_driver.specs.Making.{MarksOwn}
use Rattle.chip_driver.proofs.Starting.{settled_start, drives_start, follow_made, host_off}
use Rattle.chip_driver.proofs.driver.Driver.make.Goals as goal

pub write_member-requires : goal.write_member-requires
write_member-requires c =
    let blank : IsBlank c.in_ok-tables.tables = search rules in
    let joined : ◌≡◌ {A = List (List ℕ)} c.in_ok-joined.joined (replicate block_count []) = c.in_ok-joined.ensures in
    let own : c.start-shadow.result.own ≡ c.ports_of.result = ap (λ (s : Shadow). s.own) c.start-shadow.ensures in
    let groups : ◌≡◌ {A = List Membership} c.in_ok-groups.groups [] = search rules in
    record {
      elsewhere = ap (λ (ns : List ℕ). has_number ns host) own ∙ host_off c.args.d.now c.args.dom c.ports_of.result c.ports_of.ensures c.host_is_elsewhere.ensures;
      settled = settled_start c.ports_of.result _ _ c.in_ok-tables.tables _ _ _ blank
          (subst (λ o. MarksOwn o port_places c.in_ok-tables.tables c.mark_own.new.tables) own c.mark_own.ensures) c.switch_traps.ensures c.set_control.ensures.rest
          c.start-shadow.ensures joined (host_off c.args.d.now c.args.dom c.ports_of.result c.ports_of.ensures c.host_is_elsewhere.ensures);
      follow =
          follow_made c.start-shadow.result c.start-shadow.result.own c.in_ok-groups.groups c.in_ok-tables.tables _ _ _ blank c.mark_own.ensures c.switch_traps.ensures c.set_control.ensures.rest
          groups;
    }

pub returns-clause-start : goal.returns-clause-start
returns-clause-start c =
    let blank : IsBlank c.in_ok-tables.tables = search rules in
    let own : c.start-shadow.result.own ≡ c.ports_of.result = ap (λ (s : Shadow). s.own) c.start-shadow.ensures in
    let groups : ◌≡◌ {A = List Membership} c.in_ok-groups.groups [] = search rules in
    let kept = c.write_member.new.self in
    drives_start c.args.d.now c.args.dom c.ports_of.result kept.shadow kept.joined kept.groups c.in_ok-tables.tables _ _ _ kept.tables blank
    (subst (λ o. MarksOwn o port_places c.in_ok-tables.tables c.mark_own.new.tables) own c.mark_own.ensures) c.switch_traps.ensures c.set_control.ensures.rest
    (c.set_control.ensures.row ∙ c.first_control.ensures) c.ports_of.ensures (ap (λ (s : Shadow). s.routers) (c.write_member.ensures.shadow ∙ c.start-shadow.ensures))
    c.write_member.ensures.kept.settled c.write_member.ensures.row c.write_member.ensures.rest (c.write_member.ensures.members ∙ groups) c.write_member.ensures.kept.follow
