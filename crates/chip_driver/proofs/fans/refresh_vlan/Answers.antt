use Rattle.std.proofs.Common.{◌&&◌, ◌||◌, refl}
use Rattle.std.specs.Prelude.{◌==◌}
use Rattle.chip_tables.specs.declared.rows.Flood.TheVariants.{Unicast, Mcast, Bcast}
use Rattle.chip_driver.specs.declared.fans.Fan.TheVariants.{Floods, Routers}
use Rattle.chip_driver.specs.Settled.{same_fan}
use Rattle.chip_driver.specs.Shares.{touched_of}
use Rattle.chip_driver.specs.Renewing.{follows}
use Rattle.chip_driver.proofs.Refreshing.{four_rows}
use Rattle.chip_driver.proofs.Renewing.{follows_twice, renewed_both}
use Rattle.chip_driver.proofs.fans.refresh_vlan.Goals as goal

pub returns : goal.returns
returns c =
    let v = c.args.vid in
    let made = follows c.args.shadow.now c.args.port c.args.member in
    let steady = follows_twice c.args.shadow.now c.args.port c.args.member in
    let touched = c.args.touched.now in
    renewed_both
    (λ w k. ((w == v) && (same_fan k
    (Floods Bcast) && touched.bcast)) || (((w == v) && (same_fan k (Floods Mcast) && touched.mcast)) || ((w == v) && (same_fan k (Floods Unicast) && touched.unicast))))
    (λ w k. (w == v) && (same_fan k Routers && touched.routers)) (λ w k. (w == v) && touched_of touched k) made _ _ _ steady
    (renewed_both
    (λ w k. ((w == v) && (same_fan k (Floods Mcast) && touched.mcast)) || ((w == v) && (same_fan k (Floods Unicast) && touched.unicast)))
    (λ w k. (w == v) && (same_fan k (Floods Bcast) && touched.bcast)) _ made _ _ _ steady
    (renewed_both
    (λ w k. (w == v) && (same_fan k (Floods Unicast) && touched.unicast))
    (λ w k. (w == v) && (same_fan k (Floods Mcast) && touched.mcast)) _ made _ _ _ steady c.refresh_row.ensures c.refresh_row-2.ensures (λ w in_range k. refl))
    c.refresh_row-3.ensures (λ w in_range k. refl))
    c.refresh_row-4.ensures (λ w in_range k. four_rows (w == v) touched k)
