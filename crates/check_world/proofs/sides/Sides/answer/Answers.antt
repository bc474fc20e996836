use Rattle.std.proofs.Common.{[]}
use Rattle.plane_parts.proofs.Adding.{from_none}
use Rattle.check_world.specs.Sides.{of_sides}
use Rattle.plane_reactions.proofs.Reacting.{ended_behind}
use Rattle.check_world.proofs.sides.Sides.answer.Goals as goal

pub returns : goal.returns
returns c =
    ended_behind of_sides c.args.self.now c.react-outcome.new.self c.args.self.now.chips c.args.lines.now.lines [] _ _ _ c.args.step c.react-outcome.result _ _ _
    (from_none _ _ c.in_ok-reserve.ensures.lines) c.react-outcome.ensures.reacted c.last_line.ensures.lasts c.in_ok-last_line.was c.push_reserved.ensures.lines
