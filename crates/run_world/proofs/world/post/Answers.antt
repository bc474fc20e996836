use Rattle.run_world.proofs.Deciding.{posted}
use Rattle.run_world.proofs.world.post.Goals as goal

pub returns-clause-decided : goal.returns-clause-decided
returns-clause-decided c =
    posted c.args.plane.now c.post_floor_to.new.self c.args.id c.args.lines.now.lines c.post_floor_to.new.lines.lines c.args.verdicts.now c.remove.new.self
    c.stands.ensures.world c.in_ok-post_floor_to.ensures.ok c.remove.ensures c.requires
