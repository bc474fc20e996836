use Rattle.std.proofs.Common.{refl, sym, ◌∙◌}
use Rattle.whole_texts.proofs.Tables.{listed_by, listing_is}
use Rattle.whole_texts.proofs.Whole.{answers_well, bad_answers}
use Rattle.whole_texts.proofs.showing.show.Goals as goal

pub run-requires : goal.run-requires
run-requires c = (c.args.scenario.now, c.in_ok-whole.ensures.says)

pub returns-in_ok-text-in-Ended : goal.returns-in_ok-text-in-Ended
returns-in_ok-text-in-Ended c =
    let says = c.in_ok-whole.ensures.says in
    let ended = sym c.close-last.ensures ∙ c.in-Ended.is in
    answers_well _ _ (listed_by c.args.listing) c.args.scenario.now c.in_ok-whole.whole says _ ended
    (c.in_ok-text-in-Ended.ensures ∙ listing_is c.args.listing _ _ _ (c.in_ok-ran-in-Ended.ensures c.args.scenario.now says ended)) refl

pub returns-in-Bad : goal.returns-in-Bad
returns-in-Bad c =
    bad_answers _ _ (listed_by c.args.listing) c.args.scenario.now c.in_ok-whole.whole c.in_ok-whole.ensures.says c.bad_text.result c.close-last.result _ _ c.close-last.ensures c.in-Bad.is
    c.bad_text.ensures
