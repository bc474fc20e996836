-- How a run may end, by what its words ask for and by what it saw and did.
-- Source: this profile.
use Rattle.std.specs.Prelude.{◌≡◌}
use Rattle.std.specs.declared.option.Option.{Option}
use Rattle.std.specs.declared.option.Option.TheVariants.{None, Some}
use Rattle.br_model.specs.Program.Checks.{HasChecked}
use Rattle.br_model.specs.Program.Generator.{made}
use Rattle.br_model.specs.Program.Listings.{listed}
use Rattle.br_model.specs.Program.Outcomes.{Call, HasLines, scenario_lines}
use Rattle.br_model.specs.Table.Limits.{most_bytes, most_live_bytes}
use Rattle.br_model.specs.Program.Summary.{summary}
use Rattle.mcast_querier.specs.Runs.{queried}
use Rattle.neigh_netlink.specs.Monitor.{monitored}
use Rattle.chip_audit.specs.Lines.{audited}
use Rattle.neigh_netlink.specs.Follow.{followed}
use Rattle.neigh_netlink.specs.MessageLines.{message_lines}
use Rattle.command_line.specs.declared.asked.Asked.{Asked}
use Rattle.command_line.specs.declared.asked.Asked.TheVariants.{Replay, Check, Show, Monitor, Audit, Querier, Follow, Live, Gen, Demo}
use Rattle.run_status.specs.declared.status.Status.{Status}
use Rattle.run_status.specs.declared.status.Status.TheVariants as statuses
use Rattle.run_status.specs.Statuses.{EndsIn, Replays, Ways, check_ways, live_ways, no_parts, nothing, reading_ways, refusing_ways, scenario_ways, writing_ways}

-- of `follow`, which reads lines of messages, and writes nothing before they have ended
abbrev pub follow_ways : Type 0 → Ways
follow_ways failed = reading_ways failed message_lines most_bytes followed nothing no_parts

-- What the run read and wrote, by what the words ask for and by its status. A read has failed only where `failed` holds.
abbrev pub Outcome : Type 0 → Option Asked → Status → Call → Type 0
Outcome failed None = EndsIn refusing_ways
Outcome failed (Some Replay) = Replays failed
Outcome failed (Some Check) = EndsIn (check_ways failed)
Outcome failed (Some (Show listing)) = EndsIn (scenario_ways failed (listed listing))
Outcome failed (Some Monitor) = EndsIn (scenario_ways failed monitored)
Outcome failed (Some Audit) = EndsIn (scenario_ways failed audited)
Outcome failed (Some Follow) = EndsIn (follow_ways failed)
Outcome failed (Some (Querier four six)) = EndsIn (scenario_ways failed (queried four six))
Outcome failed (Some (Live workers)) = EndsIn (live_ways failed)
Outcome failed (Some (Gen number count)) = EndsIn (writing_ways (made number count))
Outcome failed (Some (Demo number count)) = EndsIn (writing_ways (summary number count))

-- Completeness: the words ask for what can be done, of a source that has a scenario which ends well where one is read;
abbrev pub Asks : Option Asked → Call → Type 0
Asks None call = ⊥
Asks (Some Replay) call = HasLines scenario_lines most_bytes call
Asks (Some Check) call = HasChecked most_bytes call
Asks (Some (Show listing)) call = HasLines scenario_lines most_bytes call
Asks (Some Monitor) call = HasLines scenario_lines most_bytes call
Asks (Some Audit) call = HasLines scenario_lines most_bytes call
Asks (Some Follow) call = HasLines message_lines most_bytes call
Asks (Some (Querier four six)) call = HasLines scenario_lines most_bytes call
Asks (Some (Live workers)) call = HasLines scenario_lines most_live_bytes call
Asks (Some (Gen number count)) call = Unit {0}
Asks (Some (Demo number count)) call = Unit {0}

-- then the run succeeds, or lacks memory. A check may say no.
abbrev pub EndsWell : Option Asked → Status → Type 0
EndsWell asked statuses.Ok = Unit {0}
EndsWell asked statuses.No = asked ≡ Some Check
EndsWell asked statuses.Usage = ⊥
EndsWell asked statuses.BadLine = ⊥
EndsWell asked statuses.ReadFault = ⊥
EndsWell asked statuses.WriteFault = ⊥
EndsWell asked statuses.NoMemory = Unit {0}
EndsWell asked statuses.TooLong = ⊥
