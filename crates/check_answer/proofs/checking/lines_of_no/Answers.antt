use Rattle.std.proofs.Common.{◌++◌, List, ℕ, codes, ap, ◌∙◌}
use Rattle.std.specs.Fmt.{decimal}
use Rattle.br_model.specs.Program.Checks.{with_text}
use Rattle.check_answer.proofs.CheckEnds.{three}
use Rattle.check_answer.proofs.checking.lines_of_no.Goals as goal

pub returns : goal.returns
returns c =
    let expected = with_text (codes "expected") c.args.expected.now in
    let found = with_text (codes "found") c.args.found.now in
    c.in_ok-add_line-2.ensures
    ∙ ap (λ (b : List ℕ). b ++ found) (c.in_ok-add_line.ensures ∙ ap (λ (b : List ℕ). b ++ expected) c.in_ok-lines.ensures)
    ∙ three (codes "no ") (decimal c.args.line) expected found
