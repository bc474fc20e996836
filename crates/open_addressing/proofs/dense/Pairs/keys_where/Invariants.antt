use Rattle.std.proofs.Common.{◌≡◌, take, map, filter_map}
use Rattle.open_addressing.specs.Finite.{key_if}
use Rattle.open_addressing.specs.Zipped.{pair_cell}
use Rattle.open_addressing.proofs.dense.Pairs.keys_where.Given as goal

abbrev pub invariant-loop-i : goal.invariant-loop-i
invariant-loop-i g l = l.keys.items ≡ filter_map (key_if (g.T.Test.passes l.test)) (take l.i (map pair_cell l.self-inside.pairs.items))
