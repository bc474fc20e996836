use Rattle.std.proofs.Common.{List, ◌∷◌, ◌++◌, ◌≡◌, IfOk, codes, string_bytes, subst}
use Rattle.br_model.specs.declared.steps.Step.{Step}
use Rattle.br_model.specs.Program.LiveText.{steps_scenario}
use Rattle.br_model.specs.Text.Transcript.{line_text, text}
use Rattle.capture_runner.proofs.live.text_of.Goals as goal

pub returns : goal.returns
returns c =
    let taken = c.args.taken.now in
    subst (λ (steps : List Step). IfOk c.live_text.result
    (λ x. string_bytes x ≡ steps_scenario c.args.roster.now steps ++ (codes "transcript 1" ++ 10 ∷ (text taken.book.lines.lines ++ line_text taken.end))))
    c.as_slice-steps.ensures c.live_text.ensures
