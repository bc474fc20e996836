use Rattle.std.proofs.Common.{ap, ◌∙◌}
use Rattle.std.specs.Prelude.{min}
use Rattle.std.specs.Ordering.{nat_cmp}
use Rattle.br_model.specs.Data.Maps.{get}
use Rattle.mdb_snoop.specs.Soonest.{moment_of}
use Rattle.mdb_snoop.proofs.Soonest.{soonest-next}
use Rattle.mdb_snoop.proofs.moments.Moments.soonest_of.Goals as goal

pub loop-port-preserved : goal.loop-port-preserved
loop-port-preserved c =
    soonest-next moment_of (get nat_cmp c.args.self.now) c.loop-port.yielded c.in-Some.port c.loop-port.soonest _ c.loop-port.invariant
    (c.min-soonest.ensures ∙ ap (min c.loop-port.soonest) c.moment_of.ensures)
