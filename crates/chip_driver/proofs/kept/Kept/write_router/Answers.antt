use Rattle.std.proofs.Common.{◌&&◌, refl, ap, ◌∙◌}
use Rattle.std.specs.Prelude.{None}
use Rattle.chip_tables.specs.Rows.{Rows, vlan_at}
use Rattle.chip_driver.specs.GroupRows.{is_among, is_member}
use Rattle.chip_driver.specs.Shadows.{switched}
use Rattle.chip_driver.proofs.GroupLoop.{used_of, groups_anew}
use Rattle.chip_driver.proofs.Keeping.{settled_router, settled_groups, routed_same, port_kept, refreshed, tells_at}
use Rattle.chip_driver.proofs.kept.Kept.write_router.Goals as goal

pub refresh-requires-2 : goal.refresh-requires-2
refresh-requires-2 c =
    used_of c.args.self.now.shadow c.args.self.now.groups c.args.self.now.tables _ c.requires.follow (ap (λ (r : Rows). r.groups) c.refresh.ensures.rest)

pub returns-clause-kept : goal.returns-clause-kept
returns-clause-kept c =
    let kept = c.args.self.now in
    let p = c.args.port in
    let routers = c.switch.ensures ∙ ap (λ n. switched kept.shadow.routers n c.args.on) c.number.ensures.value in
    let tells = tells_at _ _ _ _ _ c.of-before.ensures c.of.ensures c.touched-touched.ensures in
    let same = routed_same kept.shadow p c.switch.new.self c.args.on routers in
    let refreshes =
    refreshed kept.shadow (record kept.shadow { routers = c.switch.new.self }) kept.joined p c.touched-touched.result kept.tables kept.tables c.refresh.new.tables c.number.ensures.below
    c.requires.settled refl refl same c.refresh.ensures in
    record {
      elsewhere = c.requires.elsewhere;
      settled = settled_groups _ kept.joined _ _
          (settled_router kept.shadow kept.joined p c.switch.new.self c.args.on c.touched-touched.result kept.tables _ c.number.ensures.below c.requires.settled routers tells refreshes)
          c.refresh-2.ensures.rest;
      follow =
          groups_anew
          (λ k. c.touched-touched.result.groups && (is_among None k.0 && is_member kept.groups p k)) kept.shadow _ kept.groups kept.tables c.refresh.new.tables c.refresh-2.new.tables c.requires.follow
          (ap (λ (r : Rows). r.groups) c.refresh.ensures.rest)
          (port_kept kept.shadow _ p c.touched-touched.result kept.groups kept.tables c.refresh.new.tables same tells refl
          (λ vid. ap (λ (r : Rows). vlan_at r vid) c.refresh.ensures.rest))
          c.refresh-2.ensures;
    }
