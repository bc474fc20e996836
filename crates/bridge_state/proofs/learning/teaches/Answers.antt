use Rattle.std.proofs.Common.{◌<◌, ◌^◌, [], refl, sym, ap, subst, ◌∙◌}
use Rattle.std.specs.declared.option.Option.{Option}
use Rattle.std.specs.declared.result.Result.TheVariants.{Ok}
use Rattle.br_model.specs.Control.Course.{Course}
use Rattle.br_model.specs.Control.Learning.{Address}
use Rattle.br_model.specs.Control.Reaction.{learns}
use Rattle.bridge_state.specs.declared.state.Clock.{Clock}
use Rattle.bridge_state.specs.Plans.{PlansAt}
use Rattle.bridge_state.specs.Standing.{clocked, control_of, course_at, table_of}
use Rattle.bridge_state.proofs.Reactions.{makes}
use Rattle.bridge_state.proofs.learning.teaches.Goals as goal

pub returns-in-Some-clause-plans : goal.returns-in-Some-clause-plans
returns-in-Some-clause-plans c own =
    let s = c.args.state.now in
    subst (λ (x : Course). PlansAt s c.learns.result (Ok x))
    (sym (c.taught.ensures own (control_of s) ∙ ap (λ (o : Option Address). learns c.args.port o (course_at s)) c.in-Some.is))
    c.learns.ensures.plans

pub returns-in-None-clause-plans : goal.returns-in-None-clause-plans
returns-in-None-clause-plans c own =
    let s = c.args.state.now in
    let is = c.telling.ensures in
    makes (table_of s) (control_of s) c.telling.result _ [] (subst (λ (x : Clock). x.now < 2 ^ 53) (sym is.clock) c.requires)
    (ap (λ (x : Clock). clocked x (control_of s)) is.clock) is.renewed is.changes is.told refl
    (sym (c.taught.ensures own (control_of s) ∙ ap (λ (o : Option Address). learns c.args.port o (course_at s)) c.in-None.is))
