use Rattle.std.proofs.Common.{◌<◌, Some, arith, length, sym, ◌∙◌, ap, subst}
use Rattle.std.proofs.lemmas.Bool.Decides.{nat_tests}
use Rattle.transcript_check.specs.Comparing.{Standing}
use Rattle.transcript_check.proofs.Passing.{ends_with}
use Rattle.transcript_check.proofs.cursor.Cursor.end.Goals as goal

pub returns : goal.returns
returns c =
    let some : 0 < length c.self.inside.rest.now = grind (arith, nat_tests) in
    ends_with c.args.self.now (subst (λ (s : Standing). 0 < length s.rest) c.self.view_is some) ∙ ap Some (sym c.in_ok-difference.ensures)
