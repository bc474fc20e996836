use Rattle.std.proofs.Common.{◌∙◌, ap}
use Rattle.br_model.specs.Tree.Tree.{Tree}
use Rattle.br_model.specs.Tree.Step.{moved}
use Rattle.stp_core.proofs.parameters.Parameters.moved_from.Goals as goal

pub returns : goal.returns
returns c old had = c.moved_from.ensures old had ∙ ap (λ (t : Tree). moved old t) c.self.view_is
