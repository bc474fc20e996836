-- What the reading of a line, and of a section, does to a run.
use Rattle.std.specs.Prelude.{ℕ, ◌<◌, List, ◌++◌}
use Rattle.std.specs.declared.option.Option.{Option}
use Rattle.std.specs.declared.result.Result.{Result}
use Rattle.std.specs.declared.result.Result.TheVariants.{Ok, Err}
use Rattle.run_io.specs.Causes.{Rose}
use Rattle.run_io.specs.Reading.{Reading}
use Rattle.run_status.specs.declared.stop.Stop.{Stop}
use Rattle.run_status.specs.declared.stop.Stop.TheVariants.{ReadFault, NoMemory, TooLong}
use Rattle.scenario_reader.specs.declared.reader.Captured.{Captured}
use Rattle.scenario_reader.specs.declared.reader.Captured.TheVariants as sections
use Rattle.scenario_runner.specs.declared.session.Next.{Next}
use Rattle.scenario_runner.specs.declared.session.Next.TheVariants as nexts
use Rattle.scenario_runner.specs.declared.session.Session.{Session}
use Rattle.scenario_runner.specs.Playing.{Playing, AtSection, AtSteps, Played, Below, Filled, Lacked}

-- what is known then, by the answer
abbrev pub Advanced : Option (List ℕ) → ℕ → Reading → Option (List ℕ) → Session → List ℕ → Result Next Stop → Type 0
Advanced left limit reader now session text (Ok nexts.Line) = Playing left limit reader now session text
Advanced left limit reader now session text (Ok (nexts.Section n)) = AtSection left limit reader now session text n
Advanced left limit reader now session text (Ok (nexts.End last)) = Played left limit now session text last
Advanced left limit reader now session text (Err ReadFault) = Below left limit now text
Advanced left limit reader now session text (Err TooLong) = Filled left limit now text
Advanced left limit reader now session text (Err NoMemory) = Lacked left now text

-- whatever was written before the text that the call sees
abbrev pub Advances : ℕ → Reading → Reading → Option (List ℕ) → Option (List ℕ) → Session → Session → List ℕ → List ℕ → Result Next Stop → Type 0
Advances limit old_reader reader before now old_session session old_text text result =
    (left : Option (List ℕ)) (written : List ℕ) → Playing left limit old_reader before old_session (written ++ old_text)
    → Advanced left limit reader now session (written ++ text) result

-- A line takes bytes away: how many may still be handed out, before and now.
abbrev pub Lessens : ℕ → ℕ → Next → Type 0
Lessens before now nexts.Line = now < before
Lessens before now (nexts.Section n) = now < before
Lessens before now (nexts.End last) = Unit {0}

-- what is known after a section, by the answer
abbrev pub Sectioned : Option (List ℕ) → ℕ → Reading → Option (List ℕ) → Session → List ℕ → Result Captured Stop → Type 0
Sectioned left limit reader now session text (Ok (sections.Steps steps)) = AtSteps left limit reader now session text steps.items
Sectioned left limit reader now session text (Ok (sections.End last)) = Played left limit now session text last
Sectioned left limit reader now session text (Err ReadFault) = Below left limit now text
Sectioned left limit reader now session text (Err TooLong) = Filled left limit now text
Sectioned left limit reader now session text (Err NoMemory) = Lacked left now text

-- whatever was written before it
abbrev pub Sections : ℕ → Reading → Reading → Option (List ℕ) → Option (List ℕ) → Session → ℕ → Result Captured Stop → Type 0
Sections limit old_reader reader before now session n result =
    (left : Option (List ℕ)) (text : List ℕ) → AtSection left limit old_reader before session text n → Sectioned left limit reader now session text result
