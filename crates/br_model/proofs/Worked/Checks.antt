-- Worked checks, computed by the definitions.
use Rattle.std.proofs.Common.{◌≡◌, ℕ, false, List, refl}
use Rattle.br_model.specs.Program.Runs.{told, told_by}
use Rattle.br_model.specs.Worked.Checks.{answered, answers, points_scenario, points_elsewhere}
use Rattle.br_model.proofs.Worked.Computing.{computing, computing_checks}

pub told_else : (bytes : List ℕ) → told bytes ≡ told_by false bytes
unfolding told told_by
told_else bytes = refl

pub checks : answered ≡ answers
unfolding computing_checks
checks = refl

pub elsewhere : told points_scenario ≡ points_elsewhere
unfolding computing
elsewhere = refl
