use Rattle.std.proofs.Common.{ap, ◌∙◌}
use Rattle.open_addressing.specs.Finite.{Table}
use Rattle.open_addressing.specs.Least.{least}
use Rattle.open_addressing.proofs.Least.{least-cells}
use Rattle.open_addressing.proofs.map.«Map+u64+V+Pairs+V».least.Goals as goal

pub returns : goal.returns
returns g c =
    let m = c.self.inside in
    let f = g.M.Measure.number c.args.measure.now in
    c.least.ensures ∙ least-cells f m.cells c.self.invariant.0.cells.apart ∙ ap (λ (t : Table g.row.V.Denot). least f t.entries) c.self.view_is
