use Rattle.std.proofs.Common.{[], ◌∷◌, sym, ap, ◌∙◌, subst}
use Rattle.br_model.specs.declared.steps.Step.TheVariants.{Post}
use Rattle.br_model.specs.declared.transcript.Line.TheVariants.{Refused}
use Rattle.transcript_lines.specs.Rows.{Listed}
use Rattle.check_world.specs.declared.world.World.TheInside.{Inside}
use Rattle.check_world.specs.Sides.{world_of}
use Rattle.check_world.specs.Worlds.{Tells}
use Rattle.check_world.proofs.Worlds.{point_there, posts_told, refuses_told}
use Rattle.check_world.proofs.world.World.post.Goals.{in-Ok+in_ok-post_held-in-Ok, in-Err+in_ok-push-in-Err}
use Rattle.check_world.proofs.world.World.post.Goals as goal

pub post_held-requires-clause-point : goal.post_held-requires-clause-point
post_held-requires-clause-point c =
    let x = c.self.inside in
    point_there c.args.self.now x.sides x.frames x.steps c.args.id c.in-Ok.point c.args.named c.self.view_is c.requires c.in-Ok.ensures

pub returns : goal.returns
returns c =
    let x = c.self.inside in
    let old = c.args.self.now in
    let m = c.in_ok-step.step in
    elim c.match-point_of.branch [
      | in-Ok+in_ok-post_held-in-Ok w ↦
          let a = w.in_ok-post_held-in-Ok.ensures in
          record {
            lines = a.lines;
            so = subst (λ (i : Inside). Tells old (Post c.args.id c.args.named) (world_of i.sides i.frames m) a.lines) (sym w.self-inside-is)
                (posts_told old x.sides w.post_held.new.sides x.frames w.post_held.new.frames x.steps m c.args.id w.in-Ok.point c.args.named a.lines c.self.view_is c.in_ok-step.ensures
                w.in-Ok.ensures a.so);
            added = ap (λ (l : Listed). l.lines) w.lines-is ∙ a.added;
          }
      | in-Err+in_ok-push-in-Err w ↦
          record {
            lines = Refused m w.in-Err.refusal ∷ [];
            so = subst (λ (i : Inside). Tells old (Post c.args.id c.args.named) (world_of i.sides i.frames m) (Refused m w.in-Err.refusal ∷ [])) (sym w.self-inside-is)
                (refuses_told old x.sides x.frames x.steps m c.args.id c.args.named w.in-Err.refusal c.self.view_is c.in_ok-step.ensures w.in-Err.ensures);
            added = ap (λ (l : Listed). l.lines) w.lines-is ∙ w.in_ok-push-in-Err.ensures.ok;
          }
    ]
