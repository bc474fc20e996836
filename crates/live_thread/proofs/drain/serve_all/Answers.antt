use Rattle.std.proofs.Common.{◌<◌, length, refl, sym, ap, subst, ◌∙◌, arith}
use Rattle.plane_record.specs.Pasts.{Past, world_of}
use Rattle.live_thread.proofs.Drains.{idle_now, one_served}
use Rattle.live_thread.proofs.Loops.{serves_first, serves_more}
use Rattle.live_thread.proofs.Standing.{waits}
use Rattle.live_thread.proofs.drain.serve_all.Goals as goal

pub loop-alloc-init : goal.loop-alloc-init
loop-alloc-init c = record { serves = serves_first c.args.ran.now c.requires.held; seat = c.requires.seat; same = refl }

pub loop-alloc-preserved : goal.loop-alloc-preserved
loop-alloc-preserved c = record {
  serves = serves_more c.args.ran.now c.loop-alloc.ran c.serve.new.self c.in_ok-serve.ensures.ok c.loop-alloc.invariant.serves;
  seat = c.in_ok-serve.ensures.board ∙ (c.loop-alloc.invariant.seat ∙ sym (ap (λ (x : Past). x.board) c.in_ok-serve.ensures.ok));
  same = c.in_ok-serve.ensures.board ∙ c.loop-alloc.invariant.same;
}

pub loop-alloc-smaller : goal.loop-alloc-smaller
loop-alloc-smaller c =
    subst (λ (p : Past). length (world_of p).waiting < length (world_of c.loop-alloc.ran).waiting) (sym c.in_ok-serve.ensures.ok)
    (one_served c.loop-alloc.ran (subst (λ n. 0 < n) (waits c.loop-alloc.ran c.plane.result.now c.waiting.result c.plane.ensures c.waiting.ensures) (omega arith)))

pub returns : goal.returns
returns c = record {
  ok = c.loop-alloc.invariant.serves.drains;
  idle = idle_now c.loop-alloc.ran c.waiting.result (waits c.loop-alloc.ran c.plane.result.now c.waiting.result c.plane.ensures c.waiting.ensures) (omega arith) c.loop-alloc.invariant.serves.held;
  board = c.loop-alloc.invariant.same;
}
