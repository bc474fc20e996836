use Rattle.std.proofs.Common.{◌∷◌, List, take, subst}
use Rattle.br_model.specs.Control.Reaction.{react}
use Rattle.br_model.specs.declared.steps.Event.TheVariants.{Sight}
use Rattle.br_model.specs.declared.transcript.Line.{Line}
use Rattle.br_model.specs.declared.transcript.Line.TheVariants.{Soft}
use Rattle.br_model.specs.Plane.World.{sent}
use Rattle.br_model.specs.Forward.Shares.{soft_out}
use Rattle.br_model.specs.Table.Table.{table}
use Rattle.plane_reactions.specs.Reacted.{Reacted}
use Rattle.check_world.specs.Sides.{SidesState, of_sides}
use Rattle.plane_reactions.proofs.Reacting.{ended_behind}
use Rattle.check_world.proofs.sides.Sides.post.Goals as goal

pub returns : goal.returns
returns c =
    let s = c.args.self.now in
    let f = c.args.frame.now in
    let first : List Line = Soft f.id c.args.point ∷ sent f.id (soft_out s.setup.domains (table (take c.args.point s.history)) f.port f.bytes f.head f.mark) in
    let did = subst (λ (x : SidesState). Reacted of_sides x c.see-outcome.new.self x.chips c.send_at.new.lines.lines c.see-outcome.new.lines.lines c.see-outcome.result
    (react x.setup x.history x.control (Sight f.port f.bytes f.head))) c.in_ok-send_at.ensures.same c.see-outcome.ensures.reacted in
    ended_behind of_sides s c.see-outcome.new.self s.chips c.args.lines.now.lines first _ _ _ c.args.step c.see-outcome.result _ _ _
    c.in_ok-send_at.ensures.lines did c.last_line.ensures.lasts c.in_ok-last_line.was c.push_reserved.ensures.lines
