-- The scenario that `gen NUMBER COUNT` writes and `demo NUMBER COUNT` runs: so many frames among eight stations, the numbers of
-- which a linear congruential generator gives.
-- Source: this profile; the multiplier is one that Knuth tests (The Art of Computer Programming, volume 2, 3.3.4, table 1).
use Rattle.std.specs.Prelude.{ℕ, zero, suc, ◌+◌, ◌*◌, ◌/◌, ◌%◌, ◌^◌, ◌==◌, false, if◌then◌else◌, List, [], ◌∷◌, ◌++◌, map, length, codes}
use Rattle.std.specs.List.{flat_map}
use Rattle.br_model.specs.declared.domains.Edition.TheVariants.{One}
use Rattle.br_model.specs.declared.scenario.Place.TheVariants.{Steps}
use Rattle.br_model.specs.declared.steps.Command.TheVariants.{PortUp}
use Rattle.br_model.specs.declared.steps.Step.{Step}
use Rattle.br_model.specs.declared.steps.Step.TheVariants.{Rx, Cmd, Now, Serve, Turn, Report, Publish}
use Rattle.br_model.specs.Table.Domains.{first_chip_domain, software}
use Rattle.br_model.specs.Text.Head.{port_line}
use Rattle.br_model.specs.Text.Roster.{Entry}
use Rattle.br_model.specs.Text.Scenario.{Scenario, Ended}
use Rattle.br_model.specs.Text.ScenarioText.{step_text}
use Rattle.br_model.specs.Table.Setup.{first_own}
use Rattle.br_model.specs.Text.Words.{Word}

-- frames that are generated at most
abbrev pub most_frames : ℕ
most_frames = 100000

-- the generator's next state
abbrev pub drawn : ℕ → ℕ
drawn x = (x * 6364136223846793005 + 1442695040888963407) % 2 ^ 64

-- the number that a state gives: its high bits
abbrev pub number_of : ℕ → ℕ
number_of x = x / 2 ^ 33

-- 02-00-00-00-00-1s
abbrev pub station : ℕ → List ℕ
station s = 0x02 ∷ 0 ∷ 0 ∷ 0 ∷ 0 ∷ (0x10 + s) ∷ []

abbrev pub broadcast : List ℕ
broadcast = 0xFF ∷ 0xFF ∷ 0xFF ∷ 0xFF ∷ 0xFF ∷ 0xFF ∷ []

-- to one of eight stations, or to all
abbrev pub destination : ℕ → List ℕ
destination d = if d == 8 then broadcast else station d

-- from one of eight stations, of a type for experiments (IEEE 802-2014 clause 9.2.3), with two zero bytes
abbrev pub frame : ℕ → List ℕ
frame n = destination (n / 48 % 9) ++ (station (n / 6 % 8) ++ (0x88 ∷ 0xB5 ∷ 0 ∷ 0 ∷ []))

-- the step, where i is a multiple
abbrev pub each : ℕ → ℕ → Step → List Step
each d i step = if i % d == 0 then step ∷ [] else []

-- The steps of frame i, of this number: it enters by one of six ports and is served. Behind each third frame the chip's oldest
-- report is taken, behind each fifth the chip has a turn, each seventh is followed by a publication, and each 64th by a moment.
abbrev pub frame_steps : ℕ → ℕ → List Step
frame_steps i n =
    Rx (n % 6 + 1) (frame n) ∷ Serve ∷ (each 3 i (Report first_chip_domain) ++ (each 5 i (Turn first_chip_domain) ++ (each 7 i Publish ++ each 64 i (Now (1000 * i)))))

-- those of so many frames from frame i on, where the state is x; it goes on before each frame
unfoldable pub frames_from : ℕ → ℕ → ℕ → List Step
frames_from zero i x = []
frames_from (suc count) i x = frame_steps i (number_of (drawn x)) ++ frames_from count (i + 1) (drawn x)

abbrev pub entry : Word → ℕ → ℕ → Entry
entry name port dom = record { name = name; port = port; dom = dom }

-- four ports of the chip, and two of software
abbrev pub ports : List Entry
ports =
    entry (codes "g1") 1 first_chip_domain ∷
    entry (codes "g2") 2 first_chip_domain ∷
    entry (codes "g3") 3 first_chip_domain ∷
    entry (codes "g4") 4 first_chip_domain ∷
    entry (codes "g5") 5 software ∷
    entry (codes "g6") 6 software ∷
    []

-- all ports come up, which is published
abbrev pub first_steps : List Step
first_steps = map (λ e. Cmd (PortUp e.port)) ports ++ Publish ∷ []

abbrev pub steps : ℕ → ℕ → List Step
steps x count = first_steps ++ frames_from count 1 x

-- the lines before the steps
abbrev pub head : List ℕ
head = codes "scenario 1" ++ 10 ∷ flat_map port_line ports

-- the bytes of the scenario with so many frames, from this state on
unfoldable pub made : ℕ → ℕ → List ℕ
made x count = head ++ (flat_map (step_text ports) (steps x count) ++ (codes "end" ++ 10 ∷ []))

-- the scenario that they are read as
abbrev pub made_scenario : ℕ → ℕ → Scenario
made_scenario x count = record {
  lines = 8 + length (steps x count);
  roster = record { place = Steps; check = false; edition = One; own = first_own; ports = ports };
  steps = steps x count;
  ending = Ended;
}
