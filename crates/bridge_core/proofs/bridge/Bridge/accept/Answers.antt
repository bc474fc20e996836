use Rattle.std.proofs.Common.{List, refl, subst}
use Rattle.br_model.specs.declared.change.Change.{Change}
use Rattle.bridge_core.specs.Answers.{Makes}
use Rattle.bridge_state.specs.Plans.{prepared}
use Rattle.bridge_core.proofs.Accepting.{quiet_reacts}
use Rattle.bridge_core.proofs.bridge.Bridge.accept.Goals as goal

pub returns-in-None-clause-carries_out : goal.returns-in-None-clause-carries_out
returns-in-None-clause-carries_out c =
    quiet_reacts c.args.self.now c.args.plan c.requires.sound _ _ _ c.make_changes.result c.in-None.is
    (subst (λ (l : List Change). Makes c.args.self.now c.make_changes.new.self (prepared c.args.self.now.control c.args.plan) l c.make_changes.result) c.deref.ensures.value c.make_changes.ensures)
    refl
