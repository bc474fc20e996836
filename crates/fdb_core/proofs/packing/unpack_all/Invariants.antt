use Rattle.std.proofs.Common.{◌≡◌, map, take}
use Rattle.open_addressing.specs.Pairs.{unpacked}
use Rattle.fdb_core.proofs.packing.unpack_all.Given as goal

abbrev pub invariant-loop-number : goal.invariant-loop-number
invariant-loop-number l = l.keys.items ≡ map unpacked (take l.number-index l.numbers)
