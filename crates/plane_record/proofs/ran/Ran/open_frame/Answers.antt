use Rattle.std.proofs.Common.{◌≡◌, List, [], ◌∷◌, ◌++◌, ap, ◌∙◌, refl}
use Rattle.std.specs.Option.{option_map}
use Rattle.br_model.specs.declared.steps.Step.{Step}
use Rattle.br_model.specs.declared.steps.Step.TheVariants.{Hold}
use Rattle.br_model.specs.declared.transcript.Line.{Line}
use Rattle.plane_parts.specs.Added.{Added}
use Rattle.plane_core.specs.Planes.{Steps}
use Rattle.plane_core.specs.Shown.{shown_by}
use Rattle.plane_record.proofs.Recording.{past-more, ran-more, holds-so}
use Rattle.plane_record.proofs.ran.Ran.open_frame.Goals as goal

steps-are : (c : goal.After-push_reserved-2) → c.push_reserved-2.new.self.items ≡ c.self.inside.steps.items ++ Hold ∷ []
steps-are c = c.push_reserved-2.ensures.items ∙ ap (λ (l : List Step). l ++ Hold ∷ []) c.reserve.ensures.items

told : (c : goal.After-push_reserved-2) → Added (Steps c.self.inside.plane c.open_frame.new.self Hold) c.self.inside.lines.lines c.push_reserved.new.self.lines
told c =
    let o = option_map shown_by c.in_ok-held.held in
    holds-so c.self.inside.plane c.open_frame.new.self o c.steps.result c.self.inside.lines.lines c.push_reserved.new.self.lines c.in_ok-held.ensures.step c.in_ok-held.ensures.board
    c.in_ok-held.ensures.held
    c.steps.ensures
    (c.push_reserved.ensures.lines
    ∙ (ap (λ (l : List Line). l ++ c.held_line-line.result ∷ []) c.reserve-2.ensures.lines ∙ ap (λ (l : Line). c.self.inside.lines.lines ++ l ∷ []) c.held_line-line.ensures.line))

pub invariant_of-self-2 : goal.invariant_of-self-2
invariant_of-self-2 c =
    ran-more c.self.inside.plane c.open_frame.new.self c.self.inside.steps.items c.push_reserved-2.new.self.items Hold c.self.inside.lines.lines c.push_reserved.new.self.lines c.self.invariant
    (told c) (steps-are c) refl

pub returns-clause-ok : goal.returns-clause-ok
returns-clause-ok c =
    past-more c.self.inside.plane c.open_frame.new.self c.self.inside.steps.items c.push_reserved-2.new.self.items Hold c.self.inside.lines.lines c.push_reserved.new.self.lines c.self.invariant
    (told c) (steps-are c)
    c.args.self.now c.self.view_is
