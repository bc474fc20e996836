use Rattle.std.proofs.Common.{◌-◌, sym, ◌∙◌, arith}
use Rattle.live_book.proofs.Drains.{drain_ends}
use Rattle.live_book.proofs.parts.before_drain.Goals as goal

pub returns-else-may_drain-clause-drain : goal.returns-else-may_drain-clause-drain
returns-else-may_drain-clause-drain c =
    drain_ends c.args.steps.now c.loop-place.place (c.loop-place.place - 1) c.index-steps-place.result (omega arith) c.loop-place.invariant.within c.index-steps-place.is c.loop-place.invariant.drains
    (sym c.may_drain.ensures ∙ c.if-may_drain.false)
