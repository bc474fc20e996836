use Rattle.check_world.proofs.Searching.{is_member, is_none}
use Rattle.check_world.proofs.sides.has.Goals as goal

pub returns-in-Ok : goal.returns-in-Ok
returns-in-Ok c = is_member c.args.counts.now c.args.count _ c.requires c.in-Ok.ensures.position

pub returns-in-Err : goal.returns-in-Err
returns-in-Err c = is_none c.args.counts.now c.args.count _ c.requires c.in-Err.ensures.position
