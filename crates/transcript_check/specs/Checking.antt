-- What comes of a check.
use Rattle.std.specs.Prelude.{◌≡◌, ℕ, true, List, ◌++◌}
use Rattle.std.specs.declared.option.Option.{Option}
use Rattle.std.specs.declared.option.Option.TheVariants.{None, Some}
use Rattle.std.specs.declared.result.Result.{Result}
use Rattle.std.specs.declared.result.Result.TheVariants.{Ok, Err}
use Rattle.br_model.specs.declared.steps.Step.{Step}
use Rattle.br_model.specs.Program.Checks.{Difference, differs}
use Rattle.br_model.specs.Text.Scenario.{Ended, Bad, scenario_by}
use Rattle.br_model.specs.Table.Setup.{Setup}
use Rattle.transcript_check.specs.Besides.{IsBeside}
use Rattle.transcript_check.specs.declared.beside.Beside.{Beside}
use Rattle.transcript_check.specs.declared.checking.Answer.{Answer}
use Rattle.transcript_check.specs.declared.checking.Answer.TheVariants.{Yes, No}
use Rattle.transcript_check.specs.declared.checking.CheckFault.{CheckFault}
use Rattle.transcript_check.specs.declared.checking.CheckFault.TheVariants.{BadLine, NoMemory}

-- These steps were compared, whatever steps were before them.
abbrev pub ComparesSteps : Beside → List Step → Beside → Type 0
ComparesSteps old steps new =
    (transcript : List ℕ) (setup : Setup) (before : List Step) → IsBeside transcript setup before old.world.value old.cursor old.differs
    → IsBeside transcript setup (before ++ steps) new.world.value new.cursor new.differs

-- the difference that an answer tells
abbrev pub difference_of : Answer → Option Difference
difference_of Yes = None
difference_of (No line expected found) = Some (record { line = line; expected = expected; found = found })

-- The transcript was compared where the scenario ends well. Where the scenario has a bad line, that is told.
abbrev pub Checks : List ℕ → List ℕ → Result Answer CheckFault → Type 0
Checks scenario transcript (Ok answer) = ((scenario_by true scenario).ending ≡ Ended) × (differs scenario transcript ≡ difference_of answer)
Checks scenario transcript (Err (BadLine line why)) = (scenario_by true scenario).ending ≡ Bad line why
Checks scenario transcript (Err NoMemory) = Unit {0}
