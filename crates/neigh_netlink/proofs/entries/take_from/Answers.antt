use Rattle.std.proofs.Common.{sym, ◌∙◌}
use Rattle.neigh_netlink.proofs.Cuts.{without_at, without_gap, ascending-without}
use Rattle.neigh_netlink.proofs.entries.take_from.Goals as goal

pub returns-in-Ok-clause-items : goal.returns-in-Ok-clause-items
returns-in-Ok-clause-items c = c.remove.ensures.by_index.2 ∙ sym (without_at _ _ _ (rw c.deref.ensures.value at c.in-Ok.ensures.found))

pub returns-in-Ok-clause-sorted : goal.returns-in-Ok-clause-sorted
returns-in-Ok-clause-sorted c = rw (returns-in-Ok-clause-items c) (ascending-without c.args.entries.now.items c.args.key.now c.requires)

pub returns-in_default-clause-items : goal.returns-in_default-clause-items
returns-in_default-clause-items c = sym (without_gap _ _ _ (rw c.deref.ensures.value at c.in_default.ensures.gap))
