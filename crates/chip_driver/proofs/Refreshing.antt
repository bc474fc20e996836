-- Which rows of VLANs are touched.
use Rattle.std.proofs.Common.{◌≡◌, Bool, true, false, ◌&&◌, ◌||◌, refl, sym, ap, ◌∙◌}
use Rattle.lemmas.proofs.Tests.{or-false}
use Rattle.chip_tables.specs.declared.rows.Flood.{Flood}
use Rattle.chip_tables.specs.declared.rows.Flood.TheVariants.{Unicast, Mcast, Bcast}
use Rattle.chip_tables.specs.Rows.{same_flood}
use Rattle.chip_driver.specs.declared.fans.Fan.{Fan}
use Rattle.chip_driver.specs.declared.fans.Fan.TheVariants.{Floods, Routers}
use Rattle.chip_driver.specs.declared.shares.Touched.{Touched}
use Rattle.chip_driver.specs.Shares.{touched_of}
use Rattle.chip_driver.specs.Settled.{same_fan}

-- ---- which row it is

flood_is : (f g : Flood) → same_flood f g ≡ true → f ≡ g
flood_is Unicast Unicast e = refl
flood_is Unicast Mcast e = absurd (cc)
flood_is Unicast Bcast e = absurd (cc)
flood_is Mcast Unicast e = absurd (cc)
flood_is Mcast Mcast e = refl
flood_is Mcast Bcast e = absurd (cc)
flood_is Bcast Unicast e = absurd (cc)
flood_is Bcast Mcast e = absurd (cc)
flood_is Bcast Bcast e = refl

pub fan_is : (k fan : Fan) → same_fan k fan ≡ true → k ≡ fan
fan_is (Floods f) (Floods g) e = ap (λ n. Floods n) (flood_is f g e)
fan_is (Floods f) Routers e = absurd (cc)
fan_is Routers (Floods g) e = absurd (cc)
fan_is Routers Routers e = refl

-- the four rows of a VLAN
pub four_rows : (e : Bool) (touched : Touched) (k : Fan)
    → (e && touched_of touched k) ≡ ((e && (same_fan k Routers && touched.routers)) || ((e && (same_fan k (Floods Bcast) && touched.bcast))
    || ((e && (same_fan k (Floods Mcast) && touched.mcast)) || (e && (same_fan k (Floods Unicast) && touched.unicast)))))
four_rows false touched k = refl
four_rows true touched (Floods Unicast) = refl
four_rows true touched (Floods Mcast) = sym (or-false touched.mcast)
four_rows true touched (Floods Bcast) = sym (or-false touched.bcast)
four_rows true touched Routers = sym (or-false touched.routers)

-- tests of VLANs by what is touched
pub both_touched : (a b c t : Bool) → c ≡ (b || a) → (c && t) ≡ ((b && t) || (a && t))
both_touched true true c t is = ap (λ x. x && t) is ∙ twice t
  where
    twice : (t : Bool) → t ≡ (t || t)
    twice true = refl
    twice false = refl
both_touched true false c t is = ap (λ x. x && t) is
both_touched false true c t is = ap (λ x. x && t) is ∙ sym (or-false t)
both_touched false false c t is = ap (λ x. x && t) is
