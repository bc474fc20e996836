use Rattle.std.proofs.Common.{◌∷◌, ◌++◌, List, take, ap, ◌∙◌}
use Rattle.br_model.specs.declared.transcript.Line.{Line}
use Rattle.br_model.specs.declared.transcript.Line.TheVariants.{Soft}
use Rattle.br_model.specs.Plane.World.{sent}
use Rattle.br_model.specs.Forward.Shares.{soft_out}
use Rattle.br_model.specs.Table.Table.{table}
use Rattle.plane_core.specs.Sides.{of_sides}
use Rattle.plane_reactions.proofs.Reacting.{ended_behind}
use Rattle.plane_core.proofs.sides.Sides.post.Goals as goal

pub returns-clause-ok : goal.returns-clause-ok
returns-clause-ok c =
    let s = c.args.self.now in
    let f = c.args.frame.now in
    let first : List Line = Soft f.id c.args.point ∷ sent f.id (soft_out s.setup.domains (table (take c.args.point s.history)) f.port f.bytes f.head f.mark) in
    ended_behind of_sides s c.see-outcome.new.self s.chips c.args.lines.now.lines first _ _ _ c.args.step c.see-outcome.result _ _ _
    (c.in_ok-soft_lines.ensures.lines ∙ ap (λ ls. ls ++ first) c.save.ensures.lines) c.see-outcome.ensures.reacted c.last_line.ensures.lasts c.in-Ok.is c.push_reserved.ensures.lines
