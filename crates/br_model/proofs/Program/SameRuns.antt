-- The run of a scenario without steps, and with those of another one.
use Rattle.std.proofs.Common.{◌≡◌, ℕ, List, [], ◌∷◌, ◌++◌, map, refl, ap, ◌∙◌, codes}
use Rattle.std.specs.List.{sum_by}
use Rattle.br_model.specs.declared.steps.Step.{Step}
use Rattle.br_model.specs.declared.transcript.Line.TheVariants.{End}
use Rattle.br_model.specs.Plane.Chip.{first_chip}
use Rattle.br_model.specs.Plane.Runs.{end_line, pending_of, run}
use Rattle.br_model.specs.Plane.World.{Stepped, first_world}
use Rattle.br_model.specs.Program.Runs.{body_of, run_of, setup_of}
use Rattle.br_model.specs.Table.Domains.{chip_domains}
use Rattle.br_model.specs.Table.Setup.{Setup}
use Rattle.br_model.specs.Text.Scenario.{Scenario}
use Rattle.br_model.proofs.Plane.Running.{run_none}

-- the same run, where no step and nothing of the setup came
pub same_run : (s t : Scenario) → setup_of t.roster ≡ setup_of s.roster → t.steps ≡ s.steps → run_of t ≡ run_of s
same_run s t p e = ap (λ (x : Setup). run x t.steps) p ∙ ap (run (setup_of s.roster)) e

-- a run without steps writes nothing, whatever the setup
pub no_steps : (s : Scenario) → s.steps ≡ [] → body_of (run_of s) ≡ codes "transcript 1" ++ 10 ∷ []
no_steps s e = ap (λ (steps : List Step). body_of (run (setup_of s.roster) steps)) e ∙ ap body_of (run_none (setup_of s.roster))

none_pending : (setup : Setup) (doms : List ℕ) → sum_by (pending_of (first_world setup)) (map first_chip doms) ≡ 0
none_pending setup [] = refl
none_pending setup (dom ∷ doms) = none_pending setup doms

-- and counts nothing in its last line
pub no_steps_end : (s : Scenario) → s.steps ≡ [] → end_line (run_of s).0 ≡ End 0 0 0 0
no_steps_end s e =
    ap (λ (x : Stepped). end_line x.0) (ap (run (setup_of s.roster)) e ∙ run_none (setup_of s.roster))
    ∙ ap (λ (n : ℕ). End 0 0 n 0) (none_pending (setup_of s.roster) (chip_domains (setup_of s.roster).domains))
