use Rattle.std.proofs.Common.{arith}
use Rattle.run_io.proofs.ReadSteps.{takes_on}
use Rattle.run_io.proofs.whole.take_all.Goals as goal

pub loop-used-preserved : goal.loop-used-preserved
loop-used-preserved g c = record {
  limit = c.loop-used.invariant.limit;
  within = c.in-Ok.ensures.within;
  most = omega (arith, c.in-Ok.ensures.most, c.loop-used.invariant.most);
  consumed =
      takes_on _ _ _ c.loop-used.bytes.items c.make_room.new.buffer.items c.read_after.new.buffer.items c.loop-used.used c.in-Ok.count c.loop-used.invariant.consumed
      c.in_ok-make_room.ensures.kept c.in-Ok.ensures.kept c.in-Ok.ensures.given;
  later = omega (arith, c.loop-used.invariant.later, c.in-Ok.ensures.cause.later);
}
