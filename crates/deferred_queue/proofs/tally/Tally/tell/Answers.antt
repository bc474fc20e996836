use Rattle.std.proofs.Common.{◌++◌, ap, ◌∙◌, arith}
use Rattle.deferred_queue.specs.Tally.{posts_in}
use Rattle.deferred_queue.proofs.Counts.{same_posts, leaves, merges, meets, cuts}
use Rattle.deferred_queue.proofs.tally.Tally.tell.Goals as goal

pub split_seat-whole-requires : goal.split_seat-whole-requires
split_seat-whole-requires c =
    let is = c.requires.theirs.1 in
    (c.requires.theirs.0, omega (arith, c.args.self.now.sized), leaves _ _ (ap (λ m. m.0.posts) is) (ap (λ m. m.0.takes) is))

pub join_seat-requires : goal.join_seat-requires
join_seat-requires c =
    let made = c.split_seat-whole.ensures in
    let takes = ap (λ m. m.0.takes) made.4 ∙ ap (λ m. m.0.takes) c.requires.theirs.1 in (
      c.requires.watch.0,
      made.3 ∙ c.requires.theirs.0,
      ap (λ m. m.1) made.4,
      omega (arith, c.args.self.now.sized),
      merges _ _ _ _ (ap (λ m. m.0.posts) c.requires.watch.1) takes,
    )

pub load-requires : goal.load-requires
load-requires c =
    let joined = c.join_seat.ensures in
    let both = ap (λ m. m.0) joined.2 in
    let alone = ap (λ m. m.1) joined.2 ∙ ap (λ m. m.1) c.requires.watch.1 in
    (joined.0 ∙ c.requires.watch.0, omega (arith, c.args.self.now.sized), meets _ _ _ (ap (λ v. v.posts) both) (ap (λ v. v.takes) both) alone)

pub split_seat-requires : goal.split_seat-requires
split_seat-requires c =
    let met = c.load.ensures.2 in (
      c.load.ensures.0 ∙ c.join_seat.ensures.0 ∙ c.requires.watch.0,
      omega (arith, c.args.self.now.sized),
      cuts _ _ (ap (λ m. m.0.posts) met.1) (ap (λ m. m.0.takes) met.1),
    )

pub returns-clause-counted : goal.returns-clause-counted
returns-clause-counted c =
    let met = c.load.ensures.2 in
    let counted = ap (λ m. posts_in m.0.counted) c.split_seat.ensures.2 ∙ ap (λ m. posts_in m.0.counted) met.1 in
    counted ∙ same_posts _ met.0 met.2 ∙ ap (λ m. posts_in m.0.counted) c.join_seat.ensures.2

pub returns-clause-told : goal.returns-clause-told
returns-clause-told c =
    let met = c.load.ensures.2 in
    let all = ap (λ m. m.0.looked) c.split_seat.ensures.4 ∙ ap (λ m. m.0.looked) met.1 in
    let theirs = ap (λ m. m.0.looked) c.join_seat.ensures.2 ∙ ap (λ m. m.0.looked) c.split_seat-whole.ensures.4 in (
      (met.3.0, all ∙ met.3.1 ∙ ap (λ known. known ++ met.3.0) theirs, met.3.2),
      ap posts_in all ∙ same_posts _ met.0 met.2 ∙ ap (λ m. posts_in m.0.counted) c.join_seat.ensures.2,
    )
