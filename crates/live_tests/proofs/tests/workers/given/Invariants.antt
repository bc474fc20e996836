use Rattle.std.proofs.Common.{◌≡◌, [], ◌∷◌, true, false}
use Rattle.std.specs.List.{list_all}
use Rattle.br_model.specs.Text.LineForms.{comes_by_line}
use Rattle.live_tests.proofs.tests.workers.given.Given as goal

-- a line gives each of them
abbrev pub invariant-loop : goal.invariant-loop
invariant-loop l = list_all (comes_by_line false (1 ∷ [])) l.steps.items ≡ true
