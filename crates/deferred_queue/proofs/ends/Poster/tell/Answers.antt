use Rattle.std.proofs.Common.{ap, ◌∙◌}
use Rattle.deferred_queue.proofs.Moves.{forks, leaves, merges, totals}
use Rattle.deferred_queue.proofs.ends.Poster.tell.Goals as goal

pub another-theirs-requires-clause-rule : goal.another-theirs-requires-clause-rule
another-theirs-requires-clause-rule c = leaves _ _ (ap (λ v. v.posts) c.taker.invariant.1) (ap (λ v. v.takes) c.taker.invariant.1)

pub absorb-requires-clause-rule : goal.absorb-requires-clause-rule
absorb-requires-clause-rule c = merges _ _ _ _ (ap (λ v. v.posts) c.self.invariant.1) (ap (λ v. v.takes) (c.another-theirs.ensures.rule.1 ∙ c.taker.invariant.1))

pub learn_as-requires-clause-rule : goal.learn_as-requires-clause-rule
learn_as-requires-clause-rule c = totals _ _ (ap (λ v. v.posts) c.absorb.ensures.rule) (ap (λ v. v.takes) c.absorb.ensures.rule)

pub another-requires-clause-rule : goal.another-requires-clause-rule
another-requires-clause-rule c = let is = c.learn_as.ensures.queue.1 ∙ c.absorb.ensures.rule in forks _ _ (ap (λ v. v.posts) is) (ap (λ v. v.takes) is)
