-- A run step by step.
use Rattle.std.proofs.Common.{◌≡◌, List, [], ◌∷◌, ◌++◌, refl}
use Rattle.std.proofs.lemmas.List.Sums.{fold-append}
use Rattle.std.proofs.lemmas.Grind.{flat_map-append}
use Rattle.br_model.specs.declared.steps.Step.{Step}
use Rattle.br_model.specs.declared.transcript.Line.{Line}
use Rattle.br_model.specs.Plane.Runs.{run, then_step}
use Rattle.br_model.specs.Plane.World.{first_world}
use Rattle.br_model.specs.Table.Setup.{Setup}
use Rattle.br_model.specs.Text.Transcript.{text, line_text}

pub run_push : (setup : Setup) (steps : List Step) (s : Step) → run setup (steps ++ s ∷ []) ≡ then_step (run setup steps) s
unfolding run
run_push setup steps s = fold-append then_step (first_world setup, []) steps (s ∷ [])

pub run_none : (setup : Setup) → run setup [] ≡ (first_world setup, [])
unfolding run
run_none setup = refl

pub text-append : (xs ys : List Line) → text (xs ++ ys) ≡ text xs ++ text ys
text-append xs ys = flat_map-append line_text xs ys
