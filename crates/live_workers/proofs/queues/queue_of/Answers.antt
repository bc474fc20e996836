use Rattle.std.proofs.Common.{List, ◌++◌, ap, ◌∙◌}
use Rattle.br_model.specs.declared.change.Update.{Update}
use Rattle.br_model.specs.Table.Change.{updates}
use Rattle.deferred_queue.specs.Ends.{Posting}
use Rattle.plane_lock.proofs.Settling.{updates-there}
use Rattle.plane_record.proofs.Recording.{has-own-chip}
use Rattle.live_workers.proofs.queues.queue_of.Goals as goal

-- nothing was posted yet
pub post_updates-requires : goal.post_updates-requires
post_updates-requires g c =
    let us = updates c.plane-plane.result.now.world.setup.domains.edition c.plane-plane.result.now.world.history in (us, ap (λ (l : List Update). l ++ us) c.in_ok-poster.ensures.empty.0)

pub applied-end-requires : goal.applied-end-requires
applied-end-requires g c = has-own-chip c.args.ran.now c.plane-plane.result.now c.args.dom c.plane-plane.ensures c.requires

pub loop-init : goal.loop-init
loop-init g c = (
  ap (λ (x : Posting). x.posted) c.post_updates.ensures ∙ updates-there c.args.ran.now c.plane-plane.result.now c.plane-plane.ensures,
  ap (λ (x : Posting). x.queue) c.post_updates.ensures ∙ c.in_ok-poster.ensures.one_queue,
)
