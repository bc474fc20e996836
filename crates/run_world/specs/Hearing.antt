-- What is kept of the frames that have entered, and what a querier hears of them.
use Rattle.std.specs.Prelude.{◌≡◌, ℕ, ◌<◌, ◌^◌, List, [], ◌∷◌, ◌++◌, if◌then◌else◌, length, get_or, map}
use Rattle.std.specs.BTreeMap.{get}
use Rattle.std.specs.List.{flat_map, fold, list_any}
use Rattle.std.specs.Option.{option_and_then}
use Rattle.std.specs.Ordering.{nat_cmp}
use Rattle.std.specs.declared.option.Option.{Option}
use Rattle.std.specs.declared.option.Option.TheVariants.{None, Some}
use Rattle.br_model.specs.declared.steps.Step.{Step}
use Rattle.br_model.specs.declared.transcript.Line.{Line}
use Rattle.br_model.specs.Plane.LineTraits.{is_done}
use Rattle.br_model.specs.Plane.Runs.{run}
use Rattle.br_model.specs.Plane.World.{World}
use Rattle.br_model.specs.Table.Setup.{Setup}
use Rattle.mcast_querier.specs.Runs.{Listening, acts, first_listening, listens, query_line, sent}
use Rattle.mcast_querier.specs.Hearing.{Asker, asker_in}
use Rattle.mcast_querier.specs.Querier.{Act, Comes, QuerierState, acted, after, first_querier, queries, ticked}
use Rattle.run_world.specs.declared.asking.Host.{Host}
use Rattle.run_world.specs.declared.entered.Entered.{Entered}

-- who asks by the frame before which so many entered, as far as it is kept
abbrev pub kept_at : Entered → ℕ → Option Asker
kept_at e place = option_and_then asker_in (get nat_cmp e.queries place)

-- these are all that ask
pub record Keeps (e : Entered) (askers : List (Option Asker)) : Type 0 where
  pub count : e.count ≡ length askers
  pub each : (place : ℕ) → kept_at e place ≡ get_or askers place None

-- these acts lead from one querier to the other, and no query leaves by them
abbrev pub Hears : QuerierState → List Act → QuerierState → Type 0
Hears a acts b = (out : List (ℕ × List ℕ)) → fold acted (a, out) acts ≡ (b, out)

-- the moment that a step names comes where the lines say that it was done
abbrev pub coming_by : Option ℕ → List Line → Option ℕ
coming_by None lines = None
coming_by (Some moment) lines = if list_any is_done lines then Some moment else None

-- the last moment then
abbrev pub moment_after : Option ℕ → ℕ → ℕ
moment_after None now = now
moment_after (Some moment) now = moment

-- the acts of a moment that comes, or of none
abbrev pub acts_by : Option ℕ → List Act
acts_by None = []
acts_by (Some moment) = Comes moment ∷ []

-- the querier after it
abbrev pub ticked_by : QuerierState → Option ℕ → QuerierState
ticked_by q None = q
ticked_by q (Some moment) = ticked q moment

-- the queries that leave, each with its moment
abbrev pub queries_by : QuerierState → Option ℕ → List (ℕ × List ℕ)
queries_by q None = []
queries_by q (Some moment) = map (λ query. (moment, query)) (queries q moment)

-- a run so far, as a querier hears it
abbrev pub listening : Setup → List Step → Listening
listening setup steps = fold listens (first_listening setup) steps

-- The host has heard the run of these steps, as a querier at these addresses. Before the first step it may have been another bridge's.
pub record HasHeard (h : Host) (four six : ℕ) (setup : Setup) (steps : List Step) : Type 0 where
  pub askers : Keeps h.entered (listening setup steps).askers
  pub querier : record h.querier { own = setup.own } ≡ (after (first_querier setup.own four six) (acts setup steps)).0

-- these are the lines of its queries
abbrev pub IsAsked : List ℕ → ℕ → ℕ → Setup → List Step → Type 0
IsAsked text four six setup steps = text ≡ flat_map query_line (sent four six setup steps)

-- the host can go on in this world
pub record IsHost (h : Host) (w : World) : Type 0 where
  pub own : h.querier.own ≡ w.setup.own
  pub now : h.now ≡ w.control.now
  pub early : h.now < 2 ^ 53
  pub askers : List (Option Asker)
  pub keeps : Keeps h.entered askers

-- by a step in this world it has heard one more, and said its queries, whatever the addresses and the steps before
abbrev pub HearsStep : Host → List ℕ → World → Step → Host → List ℕ → Type 0
HearsStep old before w step new after = (four six : ℕ) (setup : Setup) (steps : List Step) → w ≡ (run setup steps).0
    → HasHeard old four six setup steps → IsAsked before four six setup steps
    → HasHeard new four six setup (steps ++ step ∷ []) × IsAsked after four six setup (steps ++ step ∷ [])
