use Rattle.std.proofs.Common.{◌≡◌, ◌+◌, ◌-◌, ◌≤◌, ◌++◌, vec_capacity, length, take, drop}
use Rattle.neigh_netlink.specs.Monitor.{messages_of}
use Rattle.neigh_netlink.specs.Stream.{kept_of}
use Rattle.neigh_netlink.proofs.stream.Stream.follow.Given as goal

-- the messages so far and those of what is left are those of all
abbrev pub invariant-loop-at : goal.invariant-loop-at
invariant-loop-at l = record {
  kept : l.self ≡ kept_of l.fn.self.domains (take l.at l.history);
  told : l.messages.items ++ messages_of l.fn.self.domains.edition (take l.at l.history) (drop l.at l.history)
      ≡ l.fn.messages.items ++ messages_of l.fn.self.domains.edition (take l.from l.history) (drop l.from l.history);
  room : length l.messages.items + (length l.history - l.at) ≤ vec_capacity l.messages;
}
