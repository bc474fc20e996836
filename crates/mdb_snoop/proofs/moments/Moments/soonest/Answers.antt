use Rattle.std.proofs.Common.{ap, ◌∙◌}
use Rattle.std.specs.Prelude.{min, slice_index}
use Rattle.mdb_snoop.proofs.Soonest.{soonest-next}
use Rattle.mdb_snoop.proofs.moments.Moments.soonest.Goals as goal

pub loop-port-preserved : goal.loop-port-preserved
loop-port-preserved c =
    let moments = c.self.inside.moments in
    soonest-next (λ end. end) (slice_index moments) c.loop-port.yielded c.in-Some.port c.loop-port.soonest _ c.loop-port.invariant
    (c.min-soonest.ensures ∙ ap (λ i. min c.loop-port.soonest (slice_index moments i)) c.from.ensures)
