use Rattle.std.proofs.Common.{ap, subst, ◌∙◌}
use Rattle.std.specs.declared.result.Result.{Result}
use Rattle.std.specs.declared.result.Result.TheVariants.{Ok}
use Rattle.br_model.specs.declared.steps.Refusal.{Refusal}
use Rattle.br_model.specs.Control.Control.{Control}
use Rattle.br_model.specs.Control.Course.{Course, from}
use Rattle.br_model.specs.Control.Reaction.{learns_of}
use Rattle.br_model.specs.Table.Setup.{Setup}
use Rattle.br_model.specs.Table.Table.{Table, table}
use Rattle.bridge_core.specs.Kept.{Controlled}
use Rattle.bridge_state.specs.Plans.{Plans}
use Rattle.bridge_state.specs.Standing.{table_of, control_of}
use Rattle.bridge_core.proofs.bridge.Bridge.plan_taught.Goals as goal

pub returns-clause-plans : goal.returns-clause-plans
returns-clause-plans c =
    let now = c.args.self.now in
    let state = c.self.inside.state in
    let setup = ap (λ (b : Controlled). b.setup) c.self.view_is in
    let control = ap (λ (b : Controlled). b.control) c.self.view_is in
    let t = c.self.invariant.0 ∙ ap (λ (b : Controlled). table b.history) c.self.view_is in
    subst (λ (x : Table). Plans x now.control c.teaches.result (yes (learns_of now.setup c.args.port c.args.head.now (from x now.control)))) t
    (subst (λ (x : Control). Plans (table_of state) x c.teaches.result (yes (learns_of now.setup c.args.port c.args.head.now (from (table_of state) x)))) control
    (subst (λ (x : Setup). Plans (table_of state) (control_of state) c.teaches.result (yes (learns_of x c.args.port c.args.head.now (from (table_of state) (control_of state))))) setup
    (c.teaches.ensures.plans c.self.inside.own)))
  where
    yes : Course → Result Course Refusal
    yes x = Ok x
