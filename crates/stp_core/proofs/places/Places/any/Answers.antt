use Rattle.std.proofs.Common.{◌∙◌, sym}
use Rattle.stp_core.proofs.PlaceLaws.{any-by}
use Rattle.stp_core.proofs.places.Places.any.Goals as goal

pub returns : goal.returns
returns g c =
    let e = c.ports_where.ensures in
    let h = c.is_empty.ensures in
    any-by (g.T.Test.holds c.args.test.now) c.args.self.now c.is_empty.result (λ i. sym e ∙ h.0 i, λ n. h.1 (e ∙ n))
