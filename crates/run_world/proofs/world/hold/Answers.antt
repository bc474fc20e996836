use Rattle.run_world.proofs.Deciding.{held}
use Rattle.run_world.proofs.world.hold.Goals as goal

pub returns-clause-decided : goal.returns-clause-decided
returns-clause-decided c =
    held c.hold_to.result c.args.plane.now c.hold_to.new.self c.args.lines.now.lines c.hold_to.new.lines.lines c.args.verdicts.now c.decide_oldest.new.verdicts
    c.stands.ensures.world c.in_ok-decide_oldest.ensures.ok (rw c.in_ok-decide_oldest.ensures.same at c.hold_to.ensures.ok)
    (rw c.in_ok-decide_oldest.ensures.same at c.hold_to.ensures.err) c.requires.decided
