use Rattle.std.proofs.Common.{◌≡◌, List, ◌++◌, ℕ, length}
use Rattle.br_model.specs.Program.Checks.{lines_in}
use Rattle.transcript_check.specs.Comparing.{differs_at}
use Rattle.transcript_check.proofs.cursor.Cursor.compare_lines.Given as goal

-- whatever is to come behind the lines, from here on those that are left are compared
abbrev pub invariant-loop-left : goal.invariant-loop-left
invariant-loop-left l =
    (more : List (List ℕ)) → differs_at l.fn.self (lines_in l.lines ++ more) ≡ differs_at l.self (lines_in l.left ++ more)

abbrev pub decreases-loop-left : goal.decreases-loop-left
decreases-loop-left l = length l.left
