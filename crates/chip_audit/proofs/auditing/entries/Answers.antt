use Rattle.std.proofs.Common.{arith}
use Rattle.chip_audit.proofs.Waiting.{begun, ended, few-updates, gone-on, rows-ascend, the-chip}
use Rattle.chip_audit.proofs.auditing.entries.Goals as goal

pub of_rows-requires : goal.of_rows-requires
of_rows-requires c = rows-ascend c.args.p.now.world c.args.d c.stands.ensures.world c.args.rows.now c.requires.chip c.requires.rows

pub overflow_add-ticket-end : goal.overflow_add-ticket-end
overflow_add-ticket-end c =
    let w = c.args.p.now.world in
    let x = the-chip w c.args.d c.stands.ensures.world c.requires.chip in
    let few = few-updates w c.args.d c.stands.ensures.world x.0 x.1 c.applied-applied.result c.pending.result c.applied-applied.ensures c.pending.ensures in
    omega (arith, few)

pub loop-ticket-init : goal.loop-ticket-init
loop-ticket-init c = (
  omega arith,
  λ x at. begun c.args.p.now.world c.args.d c.stands.ensures.world x at c.applied-applied.result c.pending.result c.applied-applied.ensures c.pending.ensures _ c.args.rows.now
      (c.requires.rows x at) c.in_ok-entries.ensures,
)

pub loop-ticket-preserved : goal.loop-ticket-preserved
loop-ticket-preserved c = (
  omega (arith, c.loop-ticket.invariant.0),
  λ x at. gone-on c.args.p.now.world c.args.d c.stands.ensures.world x at c.applied-applied.result c.pending.result c.applied-applied.ensures c.pending.ensures c.loop-ticket.ticket
      c.loop-ticket.entries.entries
      c.follow_update.new.entries.entries c.loop-ticket.invariant.0 c.loop-ticket-test.true (c.loop-ticket.invariant.1 x at) c.in_ok-follow_update.ensures,
)

pub returns : goal.returns
returns c = λ x at.
    ended c.args.p.now.world c.args.d c.stands.ensures.world x at c.applied-applied.result c.pending.result c.applied-applied.ensures c.pending.ensures c.loop-ticket.ticket
    c.loop-ticket.entries.entries
    c.loop-ticket.invariant.0 c.loop-ticket-test.false (c.loop-ticket.invariant.1 x at)
