use Rattle.std.proofs.Common.{true, ◌&&◌, ◌||◌, refl}
use Rattle.chip_tables.specs.declared.rows.Flood.TheVariants.{Unicast, Mcast, Bcast}
use Rattle.vlan_groups.specs.Joined.{has_vlan}
use Rattle.chip_driver.specs.declared.fans.Fan.TheVariants.{Floods, Routers}
use Rattle.chip_driver.specs.Settled.{same_fan}
use Rattle.chip_driver.specs.Shares.{touched_of}
use Rattle.chip_driver.specs.Renewing.{follows}
use Rattle.chip_driver.proofs.Refreshing.{four_rows}
use Rattle.chip_driver.proofs.Renewing.{follows_twice, renewed_both}
use Rattle.chip_driver.proofs.fans.refresh.Goals as goal

pub returns : goal.returns
returns c =
    let j = c.args.joined.now in
    let p = c.args.port in
    let made = follows c.args.shadow.now p true in
    let steady = follows_twice c.args.shadow.now p true in
    let touched = c.args.touched.now in
    renewed_both
    (λ w k. (has_vlan j p w && (same_fan k
    (Floods Bcast) && touched.bcast)) || ((has_vlan j p w && (same_fan k (Floods Mcast) && touched.mcast)) || (has_vlan j p w && (same_fan k (Floods Unicast) && touched.unicast))))
    (λ w k. has_vlan j p w && (same_fan k Routers && touched.routers)) (λ w k. has_vlan j p w && touched_of touched k) made _ _ _ steady
    (renewed_both
    (λ w k. (has_vlan j p w && (same_fan k (Floods Mcast) && touched.mcast)) || (has_vlan j p w && (same_fan k (Floods Unicast) && touched.unicast)))
    (λ w k. has_vlan j p w && (same_fan k (Floods Bcast) && touched.bcast)) _ made _ _ _ steady
    (renewed_both
    (λ w k. has_vlan j p w && (same_fan k (Floods Unicast) && touched.unicast))
    (λ w k. has_vlan j p w && (same_fan k (Floods Mcast) && touched.mcast)) _ made _ _ _ steady c.refresh_fan.ensures c.refresh_fan-2.ensures (λ w in_range k. refl))
    c.refresh_fan-3.ensures (λ w in_range k. refl))
    c.refresh_fan-4.ensures (λ w in_range k. four_rows (has_vlan j p w) touched k)
