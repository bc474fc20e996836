use Rattle.mdb_snoop.proofs.Questions.{due-next}
use Rattle.mdb_snoop.proofs.sections.expired.Goals as goal

pub loop-i-preserved : goal.loop-i-preserved
loop-i-preserved c =
    due-next c.args.now c.loop-i.i c.args.sections.now c.index-sections-i.result c.index-sections-i.result _ _ c.loop-i-test.true c.index-sections-i.is c.loop-i.invariant
    c.in_ok-push_section.ensures
