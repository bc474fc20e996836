-- What is made of the steps of a run besides its transcript.
use Rattle.std.specs.Prelude.{◌≡◌, ℕ, List, [], ◌∷◌, ◌++◌, string_bytes}
use Rattle.std.specs.List.{flat_map, slice_get}
use Rattle.std.specs.declared.option.Option.{Option}
use Rattle.std.specs.declared.option.Option.TheVariants.{None, Some}
use Rattle.br_model.specs.declared.change.Update.{Update}
use Rattle.br_model.specs.declared.steps.Step.{Step}
use Rattle.br_model.specs.Plane.Chip.{Chip}
use Rattle.br_model.specs.Plane.Runs.{run}
use Rattle.br_model.specs.Plane.World.{World, chip_at}
use Rattle.br_model.specs.Table.Change.{updates}
use Rattle.br_model.specs.Table.Setup.{Setup}
use Rattle.mcast_querier.specs.Runs.{query_line, sent}
use Rattle.neigh_netlink.specs.Monitor.{message_line, messages}
use Rattle.neigh_netlink.specs.Stream.{kept_of}
use Rattle.run_world.specs.Hearing.{HasHeard, IsAsked, IsHost}
use Rattle.run_world.specs.declared.asking.Host.{Host}
use Rattle.run_world.specs.declared.voice.Voice.{Voice}
use Rattle.run_world.specs.declared.voice.Voice.TheVariants.{Silent, Monitor, Querier}

-- what the domain's chip, which is there, applies next
abbrev pub IsNext : World → ℕ → Option Update → Type 0
IsNext w dom update = (chip : Chip) × (chip_at w dom ≡ Some chip) × (update ≡ slice_get (updates w.setup.domains.edition w.history) chip.count)

-- the host is there, and can go on in this world
abbrev pub HostIn : Option Host → World → Type 0
HostIn None w = ⊥
HostIn (Some h) w = IsHost h w

-- where it is there, it has heard the run of these steps
abbrev pub HeardBy : Option Host → ℕ → ℕ → Setup → List Step → Type 0
HeardBy None four six setup steps = Unit {0}
HeardBy (Some h) four six setup steps = HasHeard h four six setup steps

-- whether the voice can go on in this world, if the run has begun
abbrev pub IsTuned : Option World → Voice → Type 0
IsTuned w Silent = Unit {0}
IsTuned None (Monitor m) = Unit {0}
IsTuned (Some w) (Monitor m) = m.stream ≡ Some (kept_of w.setup.domains w.history)
IsTuned None (Querier a) = Unit {0}
IsTuned (Some w) (Querier a) = HostIn a.host w

-- the lines that are to be said of a run
abbrev pub lines_of : Voice → Setup → List Step → List ℕ
lines_of Silent setup steps = []
lines_of (Monitor m) setup steps = flat_map message_line (messages setup steps)
lines_of (Querier a) setup steps = flat_map query_line (sent a.addresses.four a.addresses.six setup steps)

-- what was said is that of the run of these steps
abbrev pub Says : Voice → Setup → List Step → Type 0
Says Silent setup steps = Unit {0}
Says (Monitor m) setup steps = string_bytes m.text ≡ flat_map message_line (messages setup steps)
Says (Querier a) setup steps =
    HeardBy a.host a.addresses.four a.addresses.six setup steps × IsAsked (string_bytes a.text) a.addresses.four a.addresses.six setup steps

-- and so it is before the first step, with this setup
abbrev pub BeginsBy : Voice → Setup → Voice → Type 0
BeginsBy old setup new = Says old setup [] → Says new setup []

-- and after one more in this world
abbrev pub SaysBy : Voice → World → Step → Voice → Type 0
SaysBy old w step new = (setup : Setup) (steps : List Step) → w ≡ (run setup steps).0 → Says old setup steps → Says new setup (steps ++ step ∷ [])

-- all that was said
abbrev pub said_by : Voice → List ℕ
said_by Silent = []
said_by (Monitor m) = string_bytes m.text
said_by (Querier a) = string_bytes a.text
