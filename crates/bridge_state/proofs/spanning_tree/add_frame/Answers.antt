use Rattle.std.proofs.Common.{ℕ, List, [], ◌∷◌, ◌++◌, ap, ◌∙◌}
use Rattle.br_model.specs.declared.transcript.Line.TheVariants.{Ctl}
use Rattle.bridge_state.proofs.spanning_tree.add_frame.Goals as goal

pub returns-clause-lines : goal.returns-clause-lines
returns-clause-lines c = c.push_ctl.ensures.lines ∙ ap (λ (b : List ℕ). c.args.lines.now.lines ++ Ctl c.args.port b ∷ []) c.bpdu_frame.ensures.value
