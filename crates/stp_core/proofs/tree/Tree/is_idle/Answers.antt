use Rattle.std.proofs.Common.{◌≡◌, subst}
use Rattle.std.proofs.lemmas.Bool.{ltb-true}
use Rattle.br_model.specs.declared.tree.TreeEvent.TheVariants.{Moment}
use Rattle.br_model.specs.Tree.Tree.{Tree}
use Rattle.br_model.specs.Tree.Sending.{quiet}
use Rattle.br_model.specs.Tree.Step.{tree_step}
use Rattle.stp_core.proofs.Idling.{idle}
use Rattle.stp_core.proofs.tree.Tree.is_idle.Goals as goal

pub returns : goal.returns
returns c early =
    let t = c.self.inside.parameters in
    let none = c.self.invariant.due.before c.args.now (ltb-true c.args.now c.self.inside.due early) in
    subst (λ (u : Tree). tree_step u c.args.now Moment ≡ quiet u) c.self.view_is (idle t c.args.now none)
