use Rattle.std.proofs.Common.{length, ap, sym, ◌∙◌}
use Rattle.deferred_queue.proofs.Moves.{posts, posts_learns}
use Rattle.deferred_queue.proofs.ends.Poster.post.Goals as goal

pub push_as-requires-clause-rule : goal.push_as-requires-clause-rule
push_as-requires-clause-rule g c =
    let may = ap (λ v. v.posts) c.self.invariant.1 in
    let ticket = ap (λ u. u.ticket) c.of-parcel.ensures ∙ c.requires.ticket ∙ ap (λ p. length p.posted) (sym c.self.view_is) in
    (posts _ _ _ _ may ticket, posts_learns _ _ may)
