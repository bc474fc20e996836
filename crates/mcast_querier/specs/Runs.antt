-- What a querier on the host hears and sends in a run of the world. Its queries don't enter the bridge.
-- Source: this profile.
use Rattle.std.specs.Prelude.{ℕ, ◌-◌, ◌==◌, if◌then◌else◌, List, [], ◌∷◌, ◌++◌, codes, get_or}
use Rattle.std.specs.Fmt.{decimal}
use Rattle.std.specs.List.{flat_map, fold, list_any}
use Rattle.std.specs.Option.{option_map, option_map_or, option_to_list}
use Rattle.std.specs.declared.option.Option.{Option}
use Rattle.std.specs.declared.option.Option.TheVariants.{None, Some}
use Rattle.br_model.specs.declared.steps.Step.{Step}
use Rattle.br_model.specs.declared.transcript.Line.{Line}
use Rattle.br_model.specs.Data.Digits.{hex_of}
use Rattle.br_model.specs.Plane.LineTraits.{is_done, leaving}
use Rattle.br_model.specs.Plane.Steps.{world_step}
use Rattle.br_model.specs.Plane.Traits.{traits}
use Rattle.br_model.specs.Plane.World.{World, Stepped, first_world}
use Rattle.br_model.specs.Program.Runs.{setup_of}
use Rattle.br_model.specs.Table.Domains.{host}
use Rattle.br_model.specs.Table.Setup.{Setup}
use Rattle.br_model.specs.Text.Scenario.{Scenario, Ending, Going, Ended, Bad, scenario}
use Rattle.br_model.specs.Text.Transcript.{bad_text}
use Rattle.mcast_querier.specs.Hearing.{Asker, asker_in}
use Rattle.mcast_querier.specs.Querier.{Act, Comes, Hears, after, first_querier}

-- The frames that enter have the ids 1, 2, 3 and so on, whether they can be read or not.

-- who asks by the frame that enters by this step, where one does
abbrev pub entered : Step → List (Option Asker)
entered step = option_to_list (option_map (λ f. asker_in f.1) (traits step).frame)

abbrev pub hears_by : Option Asker → ℕ → List Act
hears_by None now = []
hears_by (Some asker) now = Hears asker now ∷ []

-- A frame that left for the host is heard: of one that leaves its id and port are given; `askers` tells who asks by each frame, in the
-- order of their ids.
abbrev pub heard_at : List (Option Asker) → ℕ → Option (ℕ × ℕ) → List Act
heard_at askers now None = []
heard_at askers now (Some x) = if x.1 == host then hears_by (get_or askers (x.0 - 1) None) now else []

-- by a line more
abbrev pub heard_in : List (Option Asker) → ℕ → Line → List Act
heard_in askers now l = heard_at askers now (leaving l)

-- the moment that comes by a step with these lines, unless it is refused
abbrev pub comes_by : Step → List Line → List Act
comes_by step told = option_map_or (λ moment. if list_any is_done told then Comes moment ∷ [] else []) (traits step).moment []

-- a run so far: the world, who asks by the frames that entered, and what happened to the querier
pub record Listening : Type 0 where
  pub world : World
  pub askers : List (Option Asker)
  pub acts : List Act

abbrev pub first_listening : Setup → Listening
first_listening setup = record { world = first_world setup; askers = []; acts = [] }

-- what happens by a step that ends so
abbrev pub acts_of : List (Option Asker) → Step → Stepped → List Act
acts_of askers step x = flat_map (heard_in askers x.0.control.now) x.1 ++ comes_by step x.1

abbrev pub listens : Listening → Step → Listening
listens l step =
    let x = world_step l.world step in
    let askers = l.askers ++ entered step in
    record { world = x.0; askers = askers; acts = l.acts ++ acts_of askers step x }

-- what happens to the querier in the run of these steps
abbrev pub acts : Setup → List Step → List Act
acts setup steps = (fold listens (first_listening setup) steps).acts

-- the queries that leave in the run, each with its moment
unfoldable pub sent : ℕ → ℕ → Setup → List Step → List (ℕ × List ℕ)
sent a4 a6 setup steps = (after (first_querier setup.own a4 a6) (acts setup steps)).1

abbrev pub query_line : ℕ × List ℕ → List ℕ
query_line x = codes "query " ++ (decimal x.0 ++ (32 ∷ (hex_of x.1 ++ 10 ∷ [])))

-- a line for each query, and a last line, where the scenario ends well
abbrev pub queried_at : Ending → ℕ → ℕ → Scenario → List ℕ
queried_at Going a4 a6 s = []
queried_at Ended a4 a6 s = flat_map query_line (sent a4 a6 (setup_of s.roster) s.steps) ++ (codes "end" ++ 10 ∷ [])
queried_at (Bad n why) a4 a6 s = bad_text n why

-- what `querier A4 A6` writes for the bytes of a scenario
unfoldable pub queried : ℕ → ℕ → List ℕ → List ℕ
queried a4 a6 bytes = let s = scenario bytes in queried_at s.ending a4 a6 s
