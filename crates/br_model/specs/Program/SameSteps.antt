-- Whether steps are the same: of one kind, with the same parts, which is what Rust's derived `==` says.
-- Source: this profile.
use Rattle.std.specs.Prelude.{Bool, List}
use Rattle.std.specs.Cmp.Lexicographic.{pointwise}
use Rattle.br_model.specs.contracts.steps.StepPartialEq.TheImpl.{ghosts as derived}
use Rattle.br_model.specs.declared.steps.Step.{Step}

abbrev pub same_step : Step → Step → Bool
same_step = derived.eq

-- the same steps in the same order, and as many
abbrev pub same_steps : List Step → List Step → Bool
same_steps xs ys = pointwise same_step xs ys
