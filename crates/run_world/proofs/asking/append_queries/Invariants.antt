use Rattle.std.proofs.Common.{◌≡◌, ◌++◌, take, string_bytes}
use Rattle.std.specs.List.{flat_map}
use Rattle.mcast_querier.specs.Runs.{query_line}
use Rattle.run_world.proofs.asking.append_queries.Given as goal

abbrev pub invariant-loop-query : goal.invariant-loop-query
invariant-loop-query l = string_bytes l.text ≡ string_bytes l.fn.text ++ flat_map (λ query. query_line (l.moment, query)) (take l.query-index l.queries)
