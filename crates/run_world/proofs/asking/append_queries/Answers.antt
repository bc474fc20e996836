use Rattle.std.proofs.Common.{ℕ, List, ◌++◌, string_bytes, ap, ◌∙◌}
use Rattle.std.proofs.lemmas.List.{take_all}
use Rattle.std.specs.List.{flat_map}
use Rattle.mcast_querier.specs.Runs.{query_line}
use Rattle.run_world.proofs.Querying.{with_moment}
use Rattle.run_world.proofs.asking.append_queries.Goals as goal

pub returns : goal.returns
returns c =
    let before = string_bytes c.args.text.now in
    c.loop-query.invariant
    ∙ ap (λ (l : List (List ℕ)). before ++ flat_map (λ query. query_line (c.args.moment, query)) l) (take_all _ _ c.loop-query-test.false)
    ∙ ap (λ (l : List ℕ). before ++ l) (with_moment c.args.moment c.args.queries.now)
