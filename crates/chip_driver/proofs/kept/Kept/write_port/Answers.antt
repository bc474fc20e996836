use Rattle.std.proofs.Common.{◌&&◌, sym, ap, ◌∙◌}
use Rattle.br_model.specs.Table.Domains.{host}
use Rattle.port_sets.specs.Numbers.{has_number}
use Rattle.chip_tables.specs.Rows.{Rows, vlan_at}
use Rattle.std.specs.Prelude.{ℕ, List, None}
use Rattle.chip_driver.specs.GroupRows.{is_among, is_member}
use Rattle.chip_driver.proofs.GroupLoop.{used_of, groups_anew}
use Rattle.chip_driver.proofs.Keeping.{settled_port, settled_groups, notes_same, port_kept, refreshed, tells_at}
use Rattle.chip_driver.proofs.kept.Kept.write_port.Goals as goal

pub refresh-requires : goal.refresh-requires
refresh-requires c = ap (λ (ns : List ℕ). has_number ns host) c.note.ensures.own ∙ c.requires.kept.elsewhere

pub refresh-requires-2 : goal.refresh-requires-2
refresh-requires-2 c =
    used_of c.args.self.now.shadow c.args.self.now.groups c.args.self.now.tables _ c.requires.kept.follow (ap (λ (r : Rows). r.groups) c.refresh.ensures.rest
    ∙ ap (λ (r : Rows). r.groups) c.set_port.ensures.rest)

pub returns-clause-kept : goal.returns-clause-kept
returns-clause-kept c =
    let kept = c.args.self.now in
    let p = c.args.port in
    let tells = tells_at _ _ _ _ _ c.of-before.ensures c.of.ensures c.touched-touched.ensures in
    let same = notes_same kept.shadow c.note.new.self p c.args.row c.note.ensures in
    let refreshes =
    refreshed kept.shadow c.note.new.self kept.joined p c.touched-touched.result kept.tables c.set_port.new.self c.refresh.new.tables c.number-number.ensures.below
    c.requires.kept.settled c.set_port.ensures.rest c.note.ensures.own same c.refresh.ensures in
    record {
      elsewhere = ap (λ (ns : List ℕ). has_number ns host) c.note.ensures.own ∙ c.requires.kept.elsewhere;
      settled = settled_groups _ kept.joined _ _
          (settled_port kept.shadow _ kept.joined p c.args.row c.touched-touched.result kept.tables _ _ c.number-number.ensures.below c.requires.kept.settled c.requires.own c.requires.state
          c.set_port.ensures.row c.set_port.ensures.rest
          c.note.ensures tells refreshes)
          c.refresh-2.ensures.rest;
      follow =
          groups_anew
          (λ k. c.touched-touched.result.groups && (is_among None k.0 && is_member kept.groups p k)) kept.shadow _ kept.groups kept.tables c.refresh.new.tables c.refresh-2.new.tables
          c.requires.kept.follow
          (ap (λ (r : Rows). r.groups) c.refresh.ensures.rest ∙ ap (λ (r : Rows). r.groups) c.set_port.ensures.rest)
          (port_kept kept.shadow _ p c.touched-touched.result kept.groups kept.tables c.refresh.new.tables same tells
          (ap (λ (ns : List ℕ). has_number ns p) (sym c.note.ensures.own))
          (λ vid. ap (λ (r : Rows). vlan_at r vid) c.refresh.ensures.rest ∙ ap (λ (r : Rows). vlan_at r vid) c.set_port.ensures.rest))
          c.refresh-2.ensures;
    }
