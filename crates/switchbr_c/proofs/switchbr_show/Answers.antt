use Rattle.std.proofs.Common.{refl, sym, ◌∙◌}
use Rattle.switchbr_c.proofs.Asking.{shows, shows_none}
use Rattle.switchbr_c.proofs.switchbr_show.Goals as goal

pub returns-in_default : goal.returns-in_default
returns-in_default c = shows_none _ _ _ _ _ _ (sym c.listing_of.ensures ∙ c.in_default.is) refl (refl, refl)

pub returns : goal.returns
returns c = shows _ _ _ _ _ _ c.in-Some.listing (sym c.listing_of.ensures ∙ c.in-Some.is) c.give_listing.ensures
