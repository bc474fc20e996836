use Rattle.std.proofs.Common.{List, Option, take}
use Rattle.std.specs.List.{flat_map}
use Rattle.mcast_querier.specs.Hearing.{Asker}
use Rattle.mcast_querier.specs.Runs.{heard_in}
use Rattle.transcript_lines.specs.Rows.{expand}
use Rattle.run_world.specs.Hearing.{Hears, Keeps}
use Rattle.run_world.proofs.entered.Entered.hear_all.Given as goal

abbrev pub invariant-loop-row : goal.invariant-loop-row
invariant-loop-row l = (askers : List (Option Asker)) → Keeps l.fn.self askers
    → Hears l.fn.querier (flat_map (heard_in askers l.fn.now) (expand l.arena (take l.row-index l.rows))) l.querier
