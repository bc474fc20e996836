use Rattle.std.proofs.Common.{◌++◌, sym, ◌∙◌, ap}
use Rattle.std.proofs.lemmas.Slice.Eq.{starts_is}
use Rattle.std.proofs.lemmas.Bool.Decides.{Decides-eqb}
use Rattle.br_model.specs.Program.Checks.{lines_in}
use Rattle.transcript_check.specs.Comparing.{Standing, differs_at}
use Rattle.transcript_check.proofs.Passing.{passed_at}
use Rattle.transcript_check.proofs.cursor.Cursor.pass.Goals as goal

pub returns : goal.returns
returns c =
    let rest = c.self.inside.rest.now in
    let text = c.args.lines.now in
    let starts = (starts_is Decides-eqb rest text c.starts_with.result c.starts_with.ensures.value).0 c.if-not-starts_with.false in λ more.
    ap (λ (s : Standing). differs_at s (lines_in text ++ more)) (sym c.self.view_is)
    ∙ passed_at c.self.inside.line c.count.result text rest c.requires starts c.count.ensures.count more
