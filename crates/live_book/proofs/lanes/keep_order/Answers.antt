use Rattle.std.proofs.Common.{List, ℕ, length, get_or, ap, ◌∙◌}
use Rattle.live_book.proofs.Linking.{none_yet}
use Rattle.live_book.proofs.lanes.keep_order.Goals as goal

pub link-requires-clause-heads : goal.link-requires-clause-heads
link-requires-clause-heads c = λ q.
    ap (λ (l : List ℕ). get_or l q (length c.args.given.now)) (c.deref_mut.ensures.value ∙ c.in_ok-heads.ensures.items_if_clones_equal (λ y e. e)) ∙ none_yet 257 (length c.args.given.now) q
