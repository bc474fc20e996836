use Rattle.std.proofs.Common.{◌≡◌, take, map}
use Rattle.open_addressing.specs.Least.{least_in}
use Rattle.open_addressing.specs.Zipped.{pair_cell}
use Rattle.open_addressing.proofs.dense.Pairs.least.Given as goal

abbrev pub invariant-loop-i : goal.invariant-loop-i
invariant-loop-i g l = l.least ≡ least_in (g.M.Measure.number l.measure) (take l.i (map pair_cell l.self-inside.pairs.items))
