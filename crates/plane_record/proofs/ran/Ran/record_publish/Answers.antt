use Rattle.std.proofs.Common.{◌≡◌, List, [], ◌∷◌, ◌++◌, ap, ◌∙◌, refl}
use Rattle.br_model.specs.declared.steps.Step.{Step}
use Rattle.br_model.specs.declared.steps.Step.TheVariants.{Publish}
use Rattle.plane_parts.specs.Added.{Added}
use Rattle.plane_core.specs.Planes.{Steps}
use Rattle.plane_record.proofs.Recording.{past-more, ran-more}
use Rattle.plane_record.proofs.ran.Ran.record_publish.Given as given
use Rattle.plane_record.proofs.ran.Ran.record_publish.Goals as goal

steps-are : (g : given.Over) (c : goal.After-push_reserved g) → c.push_reserved.new.self.items ≡ c.self.inside.steps.items ++ Publish ∷ []
steps-are g c = c.push_reserved.ensures.items ∙ ap (λ (l : List Step). l ++ Publish ∷ []) c.reserve.ensures.items

told : (g : given.Over) (c : goal.After-push_reserved g) → Added (Steps c.self.inside.plane c.publish_to.new.self Publish) c.self.inside.lines.lines c.publish_to.new.lines.lines
told g c = c.in_ok-publish_to.ensures.ok

pub invariant_of-self-2 : goal.invariant_of-self-2
invariant_of-self-2 g c =
    ran-more c.self.inside.plane c.publish_to.new.self c.self.inside.steps.items c.push_reserved.new.self.items Publish c.self.inside.lines.lines c.publish_to.new.lines.lines c.self.invariant
    (told g c) (steps-are g c) refl

pub returns-clause-ok : goal.returns-clause-ok
returns-clause-ok g c =
    past-more c.self.inside.plane c.publish_to.new.self c.self.inside.steps.items c.push_reserved.new.self.items Publish c.self.inside.lines.lines c.publish_to.new.lines.lines c.self.invariant
    (told g c) (steps-are g c)
    c.args.self.now c.self.view_is
