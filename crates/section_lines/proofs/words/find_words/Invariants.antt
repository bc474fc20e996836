use Rattle.std.proofs.Common.{◌≡◌, ◌++◌, length, map}
use Rattle.br_model.specs.Text.Words.{words}
use Rattle.section_lines.proofs.words.find_words.Given as goal

abbrev pub decreases-loop-end : goal.decreases-loop-end
decreases-loop-end l = length l.rest

abbrev pub invariant-loop-end : goal.invariant-loop-end
invariant-loop-end l = map (λ w. w.now) l.found.items ++ words l.rest ≡ words l.line
