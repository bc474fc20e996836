-- What a frame leaves in a chip: a hit, and the offer of a report.
use Rattle.std.proofs.Common.{◌≡◌, ℕ, nat_lt, Bool, true, false, not, cond, ◌||◌, [], ◌∷◌, ◌++◌, length, Option, None, Some, refl}
use Rattle.std.specs.List.{list_any}
use Rattle.br_model.specs.Plane.Chip.{Chip, same_triple, offers, hits_entry}
use Rattle.br_model.specs.Control.Learning.{Address}
use Rattle.br_model.specs.Table.Limits.{most_reports}

-- a hit and an offer may come in either order
pub either_order : (c : Chip) (port : ℕ) (station entry : Option Address) → offers port station (hits_entry entry c) ≡ hits_entry entry (offers port station c)
either_order c port None entry = refl
either_order c port (Some key) None = refl
either_order c port (Some key) (Some e) =
    by (list_any (same_triple (key.0, key.1, port)) c.reports || not (nat_lt (length c.reports) most_reports))
  where
    by : (b : Bool) → cond b (hits_entry (Some e) c) (record (hits_entry (Some e) c) { reports = c.reports ++ (key.0, key.1, port) ∷ [] })
        ≡ hits_entry (Some e) (cond b c (record c { reports = c.reports ++ (key.0, key.1, port) ∷ [] }))
    by true = refl
    by false = refl

-- neither tells the domain, or what is applied
kept_offer : (port : ℕ) (station : Option Address) (c : Chip) → ((offers port station c).dom ≡ c.dom) × ((offers port station c).count ≡ c.count)
kept_offer port None c = (refl, refl)
kept_offer port (Some key) c = by (list_any (same_triple (key.0, key.1, port)) c.reports || not (nat_lt (length c.reports) most_reports))
  where
    offer : Bool → Chip
    offer b = cond b c (record c { reports = c.reports ++ (key.0, key.1, port) ∷ [] })

    by : (b : Bool) → ((offer b).dom ≡ c.dom) × ((offer b).count ≡ c.count)
    by true = (refl, refl)
    by false = (refl, refl)

pub kept_note : (port : ℕ) (station entry : Option Address) (c : Chip) → ((hits_entry entry (offers port station c)).dom ≡ c.dom) × ((hits_entry entry (offers port station c)).count ≡ c.count)
kept_note port station None c = kept_offer port station c
kept_note port station (Some key) c = kept_offer port station c
