use Rattle.std.proofs.Common.{◌<◌, sym, subst, arith}
use Rattle.plane_record.specs.Pasts.{Past}
use Rattle.live_thread.proofs.Loops.{turns_first, turns_more}
use Rattle.live_thread.proofs.Standing.{counted, still_has, still_there}
use Rattle.live_thread.proofs.Telling.{one_applied, pending_left, turned_all}
use Rattle.live_thread.proofs.drain.turn_all.Goals as goal

pub loop-alloc-init : goal.loop-alloc-init
loop-alloc-init c = turns_first c.args.ran.now c.args.dom

pub pending-requires : goal.pending-requires
pending-requires c = still_there c.args.ran.now c.loop-alloc.ran c.plane.result.now c.args.dom c.plane.ensures c.loop-alloc.invariant.drains c.requires.chip

pub turn_next-requires : goal.turn_next-requires
turn_next-requires c = still_has c.args.ran.now c.loop-alloc.ran c.args.dom c.loop-alloc.invariant.drains c.requires.chip

pub loop-alloc-preserved : goal.loop-alloc-preserved
loop-alloc-preserved c = turns_more c.args.ran.now c.loop-alloc.ran c.turn_next.new.self c.args.dom c.in_ok-turn_next.ensures.ok c.loop-alloc.invariant

pub loop-alloc-smaller : goal.loop-alloc-smaller
loop-alloc-smaller c =
    subst (λ (p : Past). pending_left p c.args.dom < pending_left c.loop-alloc.ran c.args.dom) (sym c.in_ok-turn_next.ensures.ok)
    (one_applied c.loop-alloc.ran c.args.dom c.pending.result (omega arith) (counted c.loop-alloc.ran c.plane.result.now c.args.dom c.pending.result c.plane.ensures c.pending.ensures))

pub returns : goal.returns
returns c = record {
  ok = c.loop-alloc.invariant.drains;
  keeps = c.loop-alloc.invariant.keeps;
  told = c.loop-alloc.invariant.told;
  turned = turned_all c.loop-alloc.ran c.args.dom c.pending.result (omega arith) (counted c.loop-alloc.ran c.plane.result.now c.args.dom c.pending.result c.plane.ensures c.pending.ensures);
  others = c.loop-alloc.invariant.others;
}
