use Rattle.std.proofs.Common.{sym, ◌∙◌, arith}
use Rattle.neigh_netlink.proofs.Readings.{accepted, every, other-length, refused}
use Rattle.neigh_netlink.proofs.reading.read.Goals as goal

pub returns-then-bytes-ne-LENGTH-clause-value : goal.returns-then-bytes-ne-LENGTH-clause-value
returns-then-bytes-ne-LENGTH-clause-value c = other-length c.args.bytes.now (λ same. grind (arith, same, c.if-bytes-ne-LENGTH.true))

pub returns-then-bytes-ne-LENGTH-clause-every : goal.returns-then-bytes-ne-LENGTH-clause-every
returns-then-bytes-ne-LENGTH-clause-every c = every _ _ (returns-then-bytes-ne-LENGTH-clause-value c)

pub returns-in_err-m-clause-every : goal.returns-in_err-m-clause-every
returns-in_err-m-clause-every c = every _ _ (grind arith)

pub returns-then-is_written-clause-every : goal.returns-then-is_written-clause-every
returns-then-is_written-clause-every c = every _ _ (accepted c.args.bytes.now c.in_ok-m.m c.said.result c.in_ok-m.was c.said.ensures (sym c.is_written.ensures ∙ c.if-is_written.true))

pub returns-else-is_written-clause-every : goal.returns-else-is_written-clause-every
returns-else-is_written-clause-every c = every _ _ (refused c.args.bytes.now c.in_ok-m.m c.said.result c.in_ok-m.was c.said.ensures (sym c.is_written.ensures ∙ c.if-is_written.false))
