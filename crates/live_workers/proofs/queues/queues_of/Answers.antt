use Rattle.std.proofs.Common.{◌≡◌, ℕ, ◌+◌, List, map, take, sym, subst, arith}
use Rattle.std.proofs.lemmas.List.Elements.{All-push}
use Rattle.std.specs.List.{All}
use Rattle.plane_lock.specs.declared.queues.Queue.{Queue}
use Rattle.plane_lock.specs.Posted.{updates_of}
use Rattle.live_workers.proofs.Places.{one_queued}
use Rattle.live_workers.proofs.queues.queues_of.Goals as goal

pub loop-dom-preserved : goal.loop-dom-preserved
loop-dom-preserved g c =
    let P : Queue → Type 0 = λ x. x.poster.posted ≡ updates_of c.args.ran.now in
    let f : Queue → ℕ = λ x. x.dom in
    subst (λ (q : List Queue). (map f q ≡ take (c.loop-dom.dom-index + 1) c.args.chips.now) × All P q) (sym c.in_ok-push.ensures.ok) (
      one_queued f c.loop-dom.queues c.in_ok-queue_of.field-0 c.args.chips.now c.loop-dom.dom-index c.dom-item.result (omega arith) c.dom-item.is c.loop-dom.invariant.0 c.in_ok-queue_of.ensures.dom,
      All-push P c.loop-dom.queues c.in_ok-queue_of.field-0 c.loop-dom.invariant.1 c.in_ok-queue_of.ensures.posted,
    )
