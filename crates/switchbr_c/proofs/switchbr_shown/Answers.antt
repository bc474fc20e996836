use Rattle.std.proofs.Common.{refl, sym, ◌∙◌}
use Rattle.switchbr_c.proofs.Asking.{asked, no_table, not_asked, table_asked}
use Rattle.switchbr_c.proofs.switchbr_shown.Goals as goal

pub returns-in_default : goal.returns-in_default
returns-in_default c = no_table _ _ _ _ _ _ _ (sym c.listing_of.ensures ∙ c.in_default.is) refl (refl, (refl, refl))

pub returns-in_default-take : goal.returns-in_default-take
returns-in_default-take c =
    table_asked _ _ _ _ _ _ _ c.in-Some.listing (sym c.listing_of.ensures ∙ c.in-Some.is)
    (not_asked _ _ _ _ _ _ _ c.in_default-take.ensures.taken (refl, (c.in_default-take.ensures.none, (refl, refl))))

pub returns : goal.returns
returns c =
    table_asked _ _ _ _ _ _ _ c.in-Some.listing (sym c.listing_of.ensures ∙ c.in-Some.is)
    (asked _ _ _ _ _ _ _ _ _ _ c.in-Some-take.ensures.taken.0 c.deref.ensures c.put.ensures c.shown-answer.ensures c.give_answer.ensures.tells c.give_answer.ensures.others)
