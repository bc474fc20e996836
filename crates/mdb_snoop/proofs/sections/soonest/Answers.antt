use Rattle.std.proofs.Common.{ap, ◌∙◌}
use Rattle.std.specs.Prelude.{min}
use Rattle.mdb_snoop.proofs.Soonest.{soonest-section_next}
use Rattle.mdb_snoop.proofs.sections.soonest.Goals as goal

pub loop-section-preserved : goal.loop-section-preserved
loop-section-preserved c =
    soonest-section_next c.loop-section.section-index c.args.sections.now c.section-item.result c.section-item.result c.loop-section.soonest _ c.loop-section-test.true c.section-item.is
    c.loop-section.invariant (c.min-soonest.ensures ∙ ap (min c.loop-section.soonest) c.soonest.ensures)
