-- The worlds of steps, one after the other.
use Rattle.std.proofs.Common.{◌≡◌, true, List, [], ◌∷◌, ◌++◌, refl, ◌∙◌, ap}
use Rattle.std.specs.Cmp.{second_so}
use Rattle.std.specs.List.{fold, list_all}
use Rattle.std.proofs.lemmas.List.Sums.{fold-append}
use Rattle.br_model.specs.declared.steps.Step.{Step}
use Rattle.br_model.specs.Plane.Runs.{run, then_step}
use Rattle.br_model.specs.Plane.Steps.{world_step}
use Rattle.br_model.specs.Plane.World.{World, Stepped, first_world}
use Rattle.br_model.specs.Program.LiveRun.{may_drain}
use Rattle.br_model.specs.Table.Setup.{Setup}

abbrev pub worlds : World → List Step → World
worlds w steps = fold (λ w s. (world_step w s).0) w steps

pub stepped_worlds : (x : Stepped) (steps : List Step) → (fold then_step x steps).0 ≡ worlds x.0 steps
stepped_worlds x [] = refl
stepped_worlds x (s ∷ steps) = stepped_worlds (then_step x s) steps

pub run-append : (setup : Setup) (steps more : List Step) → run setup (steps ++ more) ≡ fold then_step (run setup steps) more
unfolding run
run-append setup steps more = fold-append then_step (first_world setup, []) steps more

pub run_worlds : (setup : Setup) (first more : List Step) → (run setup (first ++ more)).0 ≡ worlds (run setup first).0 more
run_worlds setup first more = ap (λ (x : Stepped). x.0) (run-append setup first more) ∙ stepped_worlds (run setup first) more

-- what may drain, may drain from any step on
pub drains_later : (before rest : List Step) → list_all may_drain (before ++ rest) ≡ true → list_all may_drain rest ≡ true
drains_later [] rest h = h
drains_later (s ∷ before) rest h = drains_later before rest (second_so (may_drain s) (list_all may_drain (before ++ rest)) h)
