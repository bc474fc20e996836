use Rattle.std.proofs.Common.{ap, ◌∙◌}
use Rattle.open_addressing.specs.Finite.{Table, keys_where}
use Rattle.open_addressing.proofs.Ascending.{sorted_keys}
use Rattle.open_addressing.proofs.map.«Map+u64+V+Pairs+V».keys_where.Goals as goal

pub returns : goal.returns
returns g c =
    let m = c.self.inside in
    let p = g.T.Test.passes c.args.test.now in
    sorted_keys p m.cells c.in_ok-keys.keys.items c.sort.new.keys.items c.self.invariant.0.cells.apart c.in_ok-keys.ensures c.sort.ensures.permutation c.sort.ensures.sorted
    ∙ ap (λ (t : Table g.row.V.Denot). keys_where p t.entries) c.self.view_is
