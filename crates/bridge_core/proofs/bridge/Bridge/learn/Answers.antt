use Rattle.std.proofs.Common.{◌≤◌, length, refl, sym, ap, subst, ◌∙◌}
use Rattle.std.specs.declared.option.Option.{Option}
use Rattle.br_model.specs.Control.Learning.{Address}
use Rattle.br_model.specs.Control.Reaction.{learns}
use Rattle.br_model.specs.Table.Limits.{most_changes}
use Rattle.br_model.specs.Table.Table.{table}
use Rattle.bridge_core.specs.Answers.{standing}
use Rattle.bridge_core.specs.Kept.{Controlled}
use Rattle.bridge_core.proofs.Accepting.{carried_as, carried_still}
use Rattle.bridge_core.proofs.Seeing.{taught_so}
use Rattle.bridge_core.proofs.bridge.Bridge.learn.Goals as goal

pub returns-in-Some : goal.returns-in-Some
returns-in-Some c =
    let old = c.args.self.now in
    let at = c.self.invariant.0 ∙ ap (λ (b : Controlled). table b.history) c.self.view_is in
    carried_as old _ _ _ _
    (sym (taught_so old c.self.inside.domains c.self.inside.own _ c.args.port c.args.head.now _ (ap (λ (b : Controlled). b.setup) c.self.view_is) at c.taught.ensures
    ∙ ap (λ (o : Option Address). learns c.args.port o (standing old)) c.in-Some.is))
    c.learn_at.ensures

pub returns-in-None : goal.returns-in-None
returns-in-None c =
    let old = c.args.self.now in
    let at = c.self.invariant.0 ∙ ap (λ (b : Controlled). table b.history) c.self.view_is in
    let few = subst (λ (b : Controlled). length b.history ≤ most_changes) c.self.view_is c.self.invariant.1 in
    carried_still old _ _ old.control few
    (sym (taught_so old c.self.inside.domains c.self.inside.own _ c.args.port c.args.head.now _ (ap (λ (b : Controlled). b.setup) c.self.view_is) at c.taught.ensures
    ∙ ap (λ (o : Option Address). learns c.args.port o (standing old)) c.in-None.is))
    refl
