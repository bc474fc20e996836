use Rattle.std.proofs.Common.{sym, ap, ◌∙◌}
use Rattle.std.specs.Prelude.{slice_index}
use Rattle.mdb_snoop.specs.Soonest.{moment_of}
use Rattle.mdb_snoop.proofs.Mapped.{get-there, get-not}
use Rattle.mdb_snoop.proofs.moments.Moments.moment_of.Goals as goal

pub returns-then-has : goal.returns-then-has
returns-then-has c =
    ap (slice_index c.self.inside.moments) c.from.ensures
    ∙ sym (ap moment_of (get-there (slice_index c.self.inside.moments) c.self.inside.ports c.args.port c.args.self.now c.self.view_is (sym c.has.ensures.value ∙ c.if-has.true)))

pub returns-else-has : goal.returns-else-has
returns-else-has c =
    sym (ap moment_of (get-not (slice_index c.self.inside.moments) c.self.inside.ports c.args.port c.args.self.now c.self.view_is (sym c.has.ensures.value ∙ c.if-has.false)))
