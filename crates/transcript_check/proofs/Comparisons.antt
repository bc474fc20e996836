-- Steps are compared one after another, from the first one on.
use Rattle.std.proofs.Common.{◌≡◌, ℕ, true, List, [], ◌∷◌, ◌++◌, length, arith, refl, sym, ap, ap₂, ◌∙◌, subst, append_assoc}
use Rattle.std.specs.List.{list_all}
use Rattle.std.proofs.lemmas.List.{append-nil}
use Rattle.br_model.specs.declared.steps.Step.{Step}
use Rattle.br_model.specs.Plane.Runs.{run, end_line}
use Rattle.br_model.specs.Plane.World.{Stepped}
use Rattle.br_model.specs.Program.Runs.{body_of, last_text, run_of, setup_of, told_by}
use Rattle.br_model.specs.Table.Domains.{chip_domains}
use Rattle.br_model.specs.Table.Setup.{Setup}
use Rattle.br_model.specs.Text.Declarations.{are_declared}
use Rattle.br_model.specs.Text.LineForms.{comes_by_line}
use Rattle.br_model.specs.Text.Roster.{Roster}
use Rattle.br_model.specs.Text.Scenario.{Ending, Scenario, scenario_by}
use Rattle.br_model.specs.Text.Transcript.{line_text}
use Rattle.br_model.proofs.Text.DeclaredChips.{declared-chips}
use Rattle.scenario_reader.specs.declared.reader.Last.TheVariants as lasts
use Rattle.scenario_reader.specs.Reading.{ending_of}
use Rattle.scenario_reader.specs.Whole.{SaysWhole, WholeState}
use Rattle.transcript_check.specs.declared.beside.Beside.{Beside}
use Rattle.transcript_check.specs.Besides.{IsBeside}
use Rattle.transcript_check.specs.Checking.{ComparesSteps}

pub nothing_left : (steps : List Step) → length steps ≡ 0 → steps ≡ []
nothing_left [] h = refl
nothing_left (step ∷ steps) h = absurd (omega (arith, h))

pub compares_none : (x : Beside) → ComparesSteps x [] x
compares_none x = λ transcript setup before b. subst (λ (steps : List Step). IsBeside transcript setup steps x.world.value x.cursor x.differs) (sym (append-nil before)) b

-- and one more
pub compares_more : (x y z : Beside) (steps : List Step) (step : Step) → ComparesSteps x steps y
    → ((transcript : List ℕ) (setup : Setup) (before : List Step) → IsBeside transcript setup before y.world.value y.cursor y.differs
    → IsBeside transcript setup (before ++ step ∷ []) z.world.value z.cursor z.differs) → ComparesSteps x (steps ++ step ∷ []) z
compares_more x y z steps step f next = λ transcript setup before b.
    subst (λ (steps : List Step). IsBeside transcript setup steps z.world.value z.cursor z.differs) (append_assoc before steps (step ∷ []))
    (next transcript setup (before ++ steps) (f transcript setup before b))

-- what is told of a scenario that ends well
pub told_whole : (bytes : List ℕ) (x : WholeState) → SaysWhole true bytes x → x.close ≡ lasts.Ended
    → told_by true bytes ≡ body_of (run (setup_of x.roster) x.steps) ++ line_text (end_line (run (setup_of x.roster) x.steps).0)
unfolding told_by
told_whole bytes x says ended =
    let s : Scenario = scenario_by true bytes in
    ap (λ (d : Ending). body_of (run_of s) ++ last_text d (run_of s).0) (says.close ∙ ap ending_of ended)
    ∙ ap (λ (y : Stepped). body_of y ++ line_text (end_line y.0)) (ap₂ (λ (r : Roster) (steps : List Step). run (setup_of r) steps) (sym (says.roster ended)) (sym says.steps))

-- its steps are such that lines give, in the run of what is declared
pub lines_give : (setup : Setup) (x : WholeState) (bytes : List ℕ) → setup ≡ setup_of x.roster → are_declared x.roster.ports ≡ true → SaysWhole true bytes x
    → list_all (comes_by_line true (chip_domains setup.domains)) x.steps ≡ true
lines_give setup x bytes is declared says =
    ap (λ (s : Setup). list_all (comes_by_line true (chip_domains s.domains)) x.steps) is
    ∙ ap (λ (chips : List ℕ). list_all (comes_by_line true chips) x.steps) (declared-chips x.roster.edition x.roster.ports declared)
    ∙ says.by_line
