use Rattle.std.proofs.Common.{◌≡◌, ◌≤◌, ◌+◌, ◌^◌, length}
use Rattle.pcapng_read.proofs.Cutting.{left}
use Rattle.pcapng_read.proofs.blocks.Blocks.next.Given as goal

-- nothing is lost, and the model's invariant
abbrev pub invariant-loop-self : goal.invariant-loop-self
invariant-loop-self l =
    let i = l.self-inside in
    (left i.ports i.links.items i.at i.order i.rest.now ≡ l.fn.self) × (length i.links.items ≤ i.ports) × (i.at + length i.rest.now ≤ 2 ^ 24)

abbrev pub decreases-loop-self : goal.decreases-loop-self
decreases-loop-self l = length l.self-inside.rest.now
