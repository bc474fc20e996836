use Rattle.std.proofs.Common.{List, ℕ, [], ◌∷◌, ◌++◌, ◌≡◌, ◌∙◌, ap, codes, string_bytes, append_assoc}
use Rattle.br_model.specs.Program.LiveText.{steps_scenario}
use Rattle.br_model.specs.Text.Transcript.{line_text, text}
use Rattle.run_status.proofs.live.live_text.Goals as goal

pub returns : goal.returns
returns c =
    let head : List ℕ = steps_scenario c.args.roster.now c.args.steps.now in
    let first : List ℕ = codes "transcript 1" ++ 10 ∷ [] in
    let lines : List ℕ = text c.args.lines.now.lines in
    let end : List ℕ = line_text c.args.end.now in
    let scenario : string_bytes c.append_scenario.new.to ≡ head =
    c.in_ok-append_scenario.ensures ∙ ap (λ (x : List ℕ). x ++ head) c.new-text.ensures.bytes in
    c.in_ok-append.ensures.ok
    ∙ ap (λ (x : List ℕ). x ++ end) (
    c.in_ok-append_lines.ensures.ok
    ∙ ap (λ (x : List ℕ). x ++ lines) (c.in_ok-push_str.ensures.bytes ∙ ap (λ (x : List ℕ). x ++ first) scenario)
    )
    ∙ append_assoc (head ++ first) lines end
    ∙ append_assoc head first (lines ++ end)
