use Rattle.std.proofs.Common.{◌-◌, None}
use Rattle.open_addressing.specs.Hashed.{key_in}
use Rattle.open_addressing.specs.Indexed.{Halves}
use Rattle.open_addressing.specs.Zipped.{key_of}
use Rattle.open_addressing.proofs.index.rank.Given as goal

abbrev pub invariant-loop-low : goal.invariant-loop-low
invariant-loop-low g l = Halves (key_in key_of None (g.C.Cells.cells l.cells)) l.rest (g.C.Cells.number l.key) l.low l.high

abbrev pub decreases-loop-low : goal.decreases-loop-low
decreases-loop-low g l = l.high - l.low
