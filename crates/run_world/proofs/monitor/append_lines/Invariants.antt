use Rattle.std.proofs.Common.{◌≡◌, ◌++◌, take, string_bytes}
use Rattle.std.specs.List.{flat_map}
use Rattle.neigh_netlink.specs.Monitor.{message_line}
use Rattle.run_world.proofs.monitor.append_lines.Given as goal

abbrev pub invariant-loop-message : goal.invariant-loop-message
invariant-loop-message l = string_bytes l.text ≡ string_bytes l.fn.text ++ flat_map message_line (take l.message-index l.messages)
