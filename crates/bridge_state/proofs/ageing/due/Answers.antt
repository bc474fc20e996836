use Rattle.std.proofs.Common.{sym, ◌∙◌}
use Rattle.br_model.specs.declared.tree.TreeEvent.TheVariants.{Moment}
use Rattle.br_model.specs.Tree.Sending.{quiet}
use Rattle.br_model.specs.Tree.Step.{tree_step}
use Rattle.bridge_state.proofs.Reactions.{told_idle}
use Rattle.bridge_state.proofs.ageing.due.Goals as goal

pub returns-then-is_idle : goal.returns-then-is_idle
returns-then-is_idle c r tree now = told_idle r ((λ i. tree_step (tree i) (now i) Moment) ∙ c.is_idle.ensures c.if-is_idle.true ∙ sym (λ i. quiet (tree i)))
