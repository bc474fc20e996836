use Rattle.std.proofs.Common.{◌≡◌, ℕ, ◌++◌, List, Option}
use Rattle.std.specs.List.{flat_map}
use Rattle.mcast_querier.specs.Hearing.{Asker}
use Rattle.mcast_querier.specs.Runs.{heard_in}
use Rattle.transcript_lines.specs.Rows.{sent_lines}
use Rattle.run_world.specs.Hearing.{Hears, Keeps}
use Rattle.run_world.proofs.entered.Entered.hear_sent.Given as goal

abbrev pub invariant-ports : goal.invariant-ports
invariant-ports l = record {
  splits : l.fn.ports ≡ l.yielded ++ l.port-iterator;
  hears : (askers : List (Option Asker)) (untagged plain tagged : List ℕ) → Keeps l.fn.self askers
      → Hears l.fn.querier (flat_map (heard_in askers l.fn.now) (sent_lines l.fn.id l.yielded untagged plain tagged)) l.querier;
}
