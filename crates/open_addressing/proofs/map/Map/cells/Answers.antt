use Rattle.std.proofs.Common.{List, ℕ, Option, ap, subst}
use Rattle.open_addressing.specs.Finite.{Table}
use Rattle.open_addressing.specs.Lookups.{IsApart}
use Rattle.open_addressing.specs.Zipped.{key_of}
use Rattle.open_addressing.proofs.map.Map.cells.Goals as goal

pub returns-clause-apart : goal.returns-clause-apart
returns-clause-apart g c = subst (λ (cells : List (Option (ℕ × g.row.V.Denot))). IsApart key_of cells) (ap (λ (t : Table g.row.V.Denot). t.cells) c.self.view_is) c.self.invariant.0.cells.apart
